-- What reading a part makes of a block.
use Rattle.std.proofs.Common.{◌≡◌, suc, true, List, [], ◌∷◌, ◌++◌, length, ap, sym, ◌∙◌, subst, arith}
use Rattle.std.proofs.lemmas.Bool.{false≢true}
use Rattle.std.proofs.lemmas.List.{length-append}
use Rattle.std.specs.declared.alloc.Global.{Global}
use Rattle.std.specs.declared.vec.Vec.{Vec}
use Rattle.caf_base.specs.declared.place.Pos.{Pos}
use Rattle.fortran_tree.specs.declared.action.Action.{Action}
use Rattle.fortran_tree.specs.declared.expr.Expr.{Expr}
use Rattle.fortran_tree.specs.declared.statement.CaseBlock.{CaseBlock}
use Rattle.fortran_tree.specs.declared.statement.Statement.TheVariants as statements
use Rattle.fortran_tree.specs.Expressions.{Expression}
use Rattle.fortran_tree.specs.ExpressionViews.{expression}
use Rattle.std.specs.Prelude.{Result, Ok, Err, OnOk}
use Rattle.fortran_tree.specs.Statements.{ActionStatement, CaseSelector}
use Rattle.fortran_tree.specs.declared.statement.Statement.{Statement}
use Rattle.fortran_tree.specs.StatementViews.{statement, statement_list, case_blocks, statement_action, statement_select}
use Rattle.statement_reader.specs.Parts as f
use Rattle.statement_reader.specs.Parts.{Part}
use Rattle.program_reader.specs.Sequence as q
use Rattle.program_reader.specs.Sequence.{Scope, Open, State, block_forms, staged, next, closed, changed, without_first, first_changed}
use Rattle.program_reader.specs.Nesting.{action_parts, statement_parts, statements_parts, case_parts}
use Rattle.program_reader.proofs.Steps.{staged_twice}
use Rattle.program_reader.proofs.Nested.{plain_parts}
use Rattle.program_tree.specs.declared.construct.IfPart.{IfPart}
use Rattle.program_tree.specs.declared.construct.Cases.{Cases}
use Rattle.program_tree.specs.declared.construct.Construct.{Construct}
use Rattle.program_tree.specs.declared.construct.Construct.TheVariants as c
use Rattle.program_tree.specs.declared.block.Condition.{Condition}
use Rattle.program_tree.specs.declared.block.Begun.TheVariants as begun
use Rattle.program_tree.specs.declared.block.Block.{Block}
use Rattle.program_tree.specs.Blocks.{if_front, cases_front, construct_front, frames_front, conditions_front, action_front, begun_front, begun_opens, begun_conditions, block_front, open_of, opens, place, May, IsClear, Takes}
use Rattle.program_tree.specs.Following.{has_form}
use Rattle.program_tree.proofs.Fronts.{one_condition}
use Rattle.program_tree.proofs.Places.{action_no_if, clear_front, clear_place, plain_place}

-- where there is an answer
pub on_ok : {T E P Q : Type 0} (r : Result T E) → OnOk r P → (P → Q) → OnOk r Q
on_ok (Ok v) h f = f h
on_ok (Err e) h f = tt

pub on_three : {T E P Q R S : Type 0} (r : Result T E) → OnOk r P → OnOk r Q → OnOk r R → (P → Q → R → S) → OnOk r S
on_three (Ok v) h j k f = f h j k
on_three (Err e) h j k f = tt

-- the construct that a part divides
pub then_else_if : (x : Construct) (p : IfPart) (e : Expression) (at : Pos) (es fs : List Part) → construct_front x es ≡ if_front p fs → has_form (block_forms (open_of x)) (f.else_if_part e at) ≡ true → open_of x ≡ q.if_open p.at
then_else_if (c.If d there) p e at es fs h m = let same : there ≡ p.at = cc in ap q.if_open same
then_else_if (c.ElseIf o d there) p e at es fs h m = let same : o.at ≡ p.at = cc in ap q.if_open same
then_else_if (c.Else o there) p e at es fs h m = absurd (false≢true m)
then_else_if (c.Do n k there) p e at es fs h m = absurd (false≢true m)
then_else_if (c.Case d there cases s place) p e at es fs h m = absurd (false≢true m)
then_else_if (c.Critical s there) p e at es fs h m = absurd (false≢true m)
then_else_if (c.Team d ps there) p e at es fs h m = absurd (false≢true m)

pub then_else : (x : Construct) (p : IfPart) (at : Pos) (es fs : List Part) → construct_front x es ≡ if_front p fs → has_form (block_forms (open_of x)) (f.else_part at) ≡ true → open_of x ≡ q.if_open p.at
then_else (c.If d there) p at es fs h m = let same : there ≡ p.at = cc in ap q.if_open same
then_else (c.ElseIf o d there) p at es fs h m = let same : o.at ≡ p.at = cc in ap q.if_open same
then_else (c.Else o there) p at es fs h m = absurd (false≢true m)
then_else (c.Do n k there) p at es fs h m = absurd (false≢true m)
then_else (c.Case d there cases s place) p at es fs h m = absurd (false≢true m)
then_else (c.Critical s there) p at es fs h m = absurd (false≢true m)
then_else (c.Team d ps there) p at es fs h m = absurd (false≢true m)

pub then_case : (x : Construct) (p : Cases) (s : CaseSelector) (at : Pos) (es fs : List Part) → construct_front x es ≡ cases_front p fs → has_form (block_forms (open_of x)) (f.case_part s at) ≡ true → open_of x ≡ q.case_open p.at
then_case (c.Case d there cases n place) p s at es fs h m = let same : there ≡ p.at = cc in ap q.case_open same
then_case (c.If d there) p s at es fs h m = absurd (false≢true m)
then_case (c.ElseIf o d there) p s at es fs h m = absurd (false≢true m)
then_case (c.Else o there) p s at es fs h m = absurd (false≢true m)
then_case (c.Do n k there) p s at es fs h m = absurd (false≢true m)
then_case (c.Critical n there) p s at es fs h m = absurd (false≢true m)
then_case (c.Team d ps there) p s at es fs h m = absurd (false≢true m)

-- an action, under conditions
pub acted : (old mid new : Block) (x : ActionStatement) (at : Pos) (cs : Vec Condition Global) (whole : Action) → May old (f.action_part x at) → old.begun ≡ begun.Line cs → IsClear mid.begun → mid.frames ≡ old.frames → mid.statements ≡ old.statements
    → ((es : List Part) → conditions_front cs.items (action_parts x at es) ≡ action_front whole es)
    → ((es : List Part) → statements_parts (statement_list new.statements.items) es ≡ statements_parts (statement_list mid.statements.items) (statement_parts (statement (statements.Action whole)) es))
    → new.frames ≡ mid.frames → new.begun ≡ mid.begun → Takes old new (f.action_part x at)
acted old mid new x at cs whole may line clear frames before under pushed now begun =
    let new_is : IsClear new.begun = subst IsClear (sym begun) clear in record {
      front = λ es.
          ap (λ z. frames_front old.frames.items (statements_parts (statement_list old.statements.items) (begun_front z (f.action_part x at ∷ es)))) line
          ∙ (ap (λ z. frames_front old.frames.items (statements_parts (statement_list old.statements.items) (conditions_front cs.items z))) (plain_parts x at es (action_no_if old x at may))
          ∙ (ap (λ z. frames_front old.frames.items (statements_parts (statement_list old.statements.items) z)) (under es ∙ ap (λ z. statement_parts z es) (sym (statement_action whole)))
          ∙ (ap (λ z. frames_front old.frames.items (statements_parts (statement_list z.items) (statement_parts (statement (statements.Action whole)) es))) (sym before)
          ∙ (ap (frames_front old.frames.items) (sym (pushed es))
          ∙ (ap (λ z. frames_front z.items (statements_parts (statement_list new.statements.items) es)) (sym frames ∙ sym now)
          ∙ ap (λ z. frames_front new.frames.items (statements_parts (statement_list new.statements.items) z)) (sym (clear_front new.begun es new_is)))))));
      moved = λ k. let K = staged q.in_statements k in
          ap (λ z. plain_place z (begun_opens old.begun (opens old.frames.items []))) (staged_twice q.in_statements q.in_statements k)
          ∙ (ap (λ z. plain_place K (begun_opens z (opens old.frames.items []))) line
          ∙ (ap (λ z. plain_place K (opens z.items [])) (sym frames ∙ sym now) ∙ sym (clear_place K new new_is)));
    }

-- a condition
pub conditioned : (old new : Block) (e : Expr) (at : Pos) (cs ds : Vec Condition Global) → old.begun ≡ begun.Line cs → new.begun ≡ begun.Line ds → ds.items ≡ cs.items ++ record { condition = e; at = at } ∷ []
    → new.frames ≡ old.frames → new.statements ≡ old.statements → Takes old new (f.condition_part (expression e) at)
conditioned old new e at cs ds line now more frames before =
    let x : Condition = record { condition = e; at = at } in record {
      front = λ es.
          ap (λ z. frames_front old.frames.items (statements_parts (statement_list old.statements.items) (begun_front z (f.condition_part (expression e) at ∷ es)))) line
          ∙ (ap (λ z. frames_front old.frames.items (statements_parts (statement_list old.statements.items) z)) (sym (one_condition cs.items x es) ∙ ap (λ z. conditions_front z es) (sym more))
          ∙ (ap (λ z. frames_front z.items (statements_parts (statement_list old.statements.items) (conditions_front ds.items es))) (sym frames)
          ∙ (ap (λ z. frames_front new.frames.items (statements_parts (statement_list z.items) (conditions_front ds.items es))) (sym before)
          ∙ ap (λ z. frames_front new.frames.items (statements_parts (statement_list new.statements.items) (begun_front z es))) (sym now))));
      moved = λ k. let K = staged q.in_statements k in
          let one : suc (length cs.items) ≡ length ds.items = (let a = ap length more in let b = length-append cs.items (x ∷ []) in omega arith) in
          ap (λ z. let r : State = record { scope = z; blocks = begun_opens old.begun (opens old.frames.items []); conditions = suc (begun_conditions old.begun) } in r) (staged_twice q.in_statements q.in_statements k)
          ∙ (ap (λ z. let r : State = record { scope = K; blocks = begun_opens z (opens old.frames.items []); conditions = suc (begun_conditions z) } in r) line
          ∙ (ap (λ z. let r : State = record { scope = K; blocks = opens old.frames.items []; conditions = z } in r) one
          ∙ (ap (λ z. let r : State = record { scope = K; blocks = opens z.items []; conditions = length ds.items } in r) (sym frames)
          ∙ ap (λ z. let r : State = record { scope = K; blocks = begun_opens z (opens new.frames.items []); conditions = begun_conditions z } in r) (sym now))));
    }

-- END SELECT before any CASE
pub unselected : (old new : Block) (e : Expr) (at end : Pos) (cases : Vec CaseBlock Global) → old.begun ≡ begun.Select e at → cases.items ≡ [] → IsClear new.begun → new.frames ≡ old.frames
    → ((es : List Part) → statements_parts (statement_list new.statements.items) es ≡ statements_parts (statement_list old.statements.items) (statement_parts (statement (statements.SelectCase e cases at end)) es))
    → Takes old new (f.end_select_part end)
unselected old new e at end cases select none clear frames pushed = record {
  front = λ es.
      ap (λ z. frames_front old.frames.items (statements_parts (statement_list old.statements.items) (begun_front z (f.end_select_part end ∷ es)))) select
      ∙ (ap (λ z. frames_front old.frames.items (statements_parts (statement_list old.statements.items) z)) (ap (λ z. f.select_part (expression e) at ∷ case_parts (case_blocks z) (f.end_select_part end ∷ es)) (sym none) ∙ ap (λ z. statement_parts z es) (sym (statement_select e cases at end)))
      ∙ (ap (frames_front old.frames.items) (sym (pushed es))
      ∙ (ap (λ z. frames_front z.items (statements_parts (statement_list new.statements.items) es)) (sym frames)
      ∙ ap (λ z. frames_front new.frames.items (statements_parts (statement_list new.statements.items) z)) (sym (clear_front new.begun es clear)))));
  moved = λ k. let K = staged q.in_statements k in
      ap (λ z. plain_place K (without_first (begun_opens z (opens old.frames.items [])))) select
      ∙ (ap (λ z. plain_place K (opens z.items [])) (sym frames) ∙ sym (clear_place K new clear));
}

module _ (old mid new : Block) (p : Part) (construct : Construct) (clear : IsClear old.begun)
    (front : (es : List Part) → frames_front old.frames.items es ≡ frames_front mid.frames.items (statements_parts (statement_list mid.statements.items) (construct_front construct es)))
    (opened : opens old.frames.items [] ≡ open_of construct ∷ opens mid.frames.items []) (same : mid.begun ≡ old.begun) (begun : new.begun ≡ mid.begun) where
  new_clear : IsClear new.begun
  new_clear = subst IsClear (sym same ∙ sym begun) clear

  old_front : (es : List Part) → block_front old es ≡ frames_front mid.frames.items (statements_parts (statement_list mid.statements.items) (construct_front construct (statements_parts (statement_list old.statements.items) es)))
  old_front es = ap (λ z. frames_front old.frames.items (statements_parts (statement_list old.statements.items) z)) (clear_front old.begun es clear) ∙ front (statements_parts (statement_list old.statements.items) es)

  -- the statement that ends a construct
  pub ended : (x : Statement) → ((es : List Part) → construct_front construct (statements_parts (statement_list old.statements.items) (p ∷ es)) ≡ statement_parts (statement x) es)
      → ((es : List Part) → statements_parts (statement_list new.statements.items) es ≡ statements_parts (statement_list mid.statements.items) (statement_parts (statement x) es))
      → new.frames ≡ mid.frames → ((s : State) → next s p ≡ closed s) → Takes old new p
  ended x whole pushed frames closes = record {
    front = λ es.
        old_front (p ∷ es)
        ∙ (ap (λ z. frames_front mid.frames.items (statements_parts (statement_list mid.statements.items) z)) (whole es)
        ∙ (ap (frames_front mid.frames.items) (sym (pushed es))
        ∙ (ap (λ z. frames_front z.items (statements_parts (statement_list new.statements.items) es)) (sym frames)
        ∙ ap (λ z. frames_front new.frames.items (statements_parts (statement_list new.statements.items) z)) (sym (clear_front new.begun es new_clear)))));
    moved = λ k. let K = staged q.in_statements k in
        closes (place K old)
        ∙ (ap closed (clear_place K old clear)
        ∙ (ap (λ z. plain_place K (without_first z)) opened
        ∙ (ap (λ z. plain_place K (opens z.items [])) (sym frames) ∙ sym (clear_place K new new_clear))));
  }

  -- one that divides it
  pub divided : (then : Construct) (g : Open → Open) → ((es : List Part) → construct_front construct (statements_parts (statement_list old.statements.items) (p ∷ es)) ≡ construct_front then es)
      → ((es : List Part) → frames_front new.frames.items es ≡ frames_front mid.frames.items (statements_parts (statement_list mid.statements.items) (construct_front then es)))
      → opens new.frames.items [] ≡ open_of then ∷ opens mid.frames.items [] → new.statements.items ≡ [] → g (open_of construct) ≡ open_of then → ((s : State) → next s p ≡ changed g s) → Takes old new p
  divided then g whole entered now none turns divides = record {
    front = λ es.
        old_front (p ∷ es)
        ∙ (ap (λ z. frames_front mid.frames.items (statements_parts (statement_list mid.statements.items) z)) (whole es)
        ∙ (sym (entered es)
        ∙ (ap (λ z. frames_front new.frames.items (statements_parts (statement_list z) es)) (sym none)
        ∙ ap (λ z. frames_front new.frames.items (statements_parts (statement_list new.statements.items) z)) (sym (clear_front new.begun es new_clear)))));
    moved = λ k. let K = staged q.in_statements k in
        divides (place K old)
        ∙ (ap (changed g) (clear_place K old clear)
        ∙ (ap (λ z. plain_place K (first_changed g z)) opened
        ∙ (ap (λ z. plain_place K (z ∷ opens mid.frames.items [])) turns
        ∙ (ap (plain_place K) (sym now) ∙ sym (clear_place K new new_clear)))));
  }
