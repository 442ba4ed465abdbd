-- Parts that were judged one behind the other, with those that follow; parts and the numbers behind them.
use Rattle.std.proofs.Common.{◌≡◌, ◌∙◌, ℕ, ◌+◌, ◌<◌, ◌≤◌, List, [], ◌∷◌, ◌++◌, length, drop, slice_index_or, refl, sym, ap, arith}
use Rattle.std.proofs.lemmas.List.{append_assoc, append-nil, drop_all, length-append}
use Rattle.std.specs.Prelude.{Option, Some, None, IfOk, Result, Ok, Err}
use Rattle.std.specs.Option.{option_map}
use Rattle.std.specs.declared.alloc.Global.{Global}
use Rattle.std.specs.declared.vec.Vec.{Vec}
use Rattle.checked_tree.specs.StatementViews.{statement as typed_statement, statements as typed_statements, else_ifs as typed_else_ifs}
use Rattle.checked_tree.specs.Statements as ts
use Rattle.checked_tree.specs.declared.statement.ElseIf.{ElseIf as TypedElseIf}
use Rattle.checked_tree.specs.declared.statement.TypedStatement.{TypedStatement}
use Rattle.fortran_tree.specs.ExpressionViews.{expression}
use Rattle.fortran_tree.specs.StatementViews.{statement, statement_list, else_ifs}
use Rattle.fortran_tree.specs.declared.statement.ElseIf.{ElseIf}
use Rattle.fortran_tree.specs.declared.statement.Statement.{Statement}
use Rattle.part_rules.specs.Views.{judgement, list_of, one_more}
use Rattle.rule_definitions.specs.Expressions.{placed}
use Rattle.rule_definitions.specs.Judgements.{Judgement, both, three, fine, made_of_both, made_of_three}
use Rattle.rule_definitions.specs.Parts.{condition}
use Rattle.rule_definitions.specs.Statements.{Position, Counted, past, behind, no_count, judged_statements, judged_else_ifs, counted_statements, counted_else_ifs, more_else_ifs}
use Rattle.case_rules.specs.Blocks.{block, else_if_list, else_if_parts}
use Rattle.statement_rules.specs.Parts.{statement_judged, statement_counted, else_if_judged, else_if_counted}
use Rattle.statement_rules.specs.Positions.{numbered, numbers, numbers_past}
use Rattle.statement_rules.specs.declared.position.Numbers.{Numbers}
use Rattle.statement_rules.specs.declared.position.Passed.{Passed}
use Rattle.case_rules.proofs.Blocks.{alike}
use Rattle.statement_rules.proofs.Laws.{none_judged, more_judged, no_else_ifs_judged, more_else_ifs_judged}
use Rattle.case_rules.proofs.Turns.{before, before_all, item_drop, nothing_before, turn_breaks, turn_meaning, whole_list}

-- Numbers

pub same_numbers : (a b c d : ℕ) → a ≡ c → b ≡ d → ◌≡◌ {A = Numbers} (record { criticals = a; literals = b }) (record { criticals = c; literals = d })
same_numbers a b c d e f = ap (λ n. record { criticals = n; literals = b }) e ∙ ap (λ n. record { criticals = c; literals = n }) f

sum_of_three : (a b c : ℕ) → (a + b) + c ≡ a + (b + c)
sum_of_three a b c = omega arith

-- behind two parts
pub past_both : (x : Position) (a b : Counted) → numbers_past (past x a) b ≡ numbers_past x (behind a b)
past_both x a b =
    same_numbers _ _ _ _ (sum_of_three x.criticals a.criticals b.criticals)
    (sum_of_three x.literals (length a.literals) (length b.literals) ∙ ap (λ n. x.literals + n) (sym (length-append a.literals b.literals)))

-- behind nothing
pub past_nothing : (x : Position) → numbers_past x no_count ≡ numbers x
past_nothing x = same_numbers _ _ _ _ (omega arith) (omega arith)

-- A list of parts that is judged from the front: the parts so far with those that follow are all
module _ {S T Y L : Type 0} (more : Y → L → L) (see : T → Y) (one : Position → S → Judgement Y) (counted : S → Counted) (all : Position → List S → Judgement L) (count : List S → Counted) where
  abbrev pub SoFar : Position → Passed (Vec T Global) → List S → List S → Type 0
  SoFar x list rest whole = record {
    breaks : list.judged.breaks.items ++ (all (numbered x list.behind) rest).breaks ≡ (all x whole).breaks;
    meaning : both (before more see) (option_map list_of list.judged.meaning) (all (numbered x list.behind) rest).meaning ≡ (all x whole).meaning;
    behind : numbers_past (numbered x list.behind) (count rest) ≡ numbers_past x (count whole);
  }

  pub begins : (x : Position) (list : Passed (Vec T Global)) (whole : List S) → judgement list_of list.judged ≡ fine [] → list.behind ≡ numbers x → SoFar x list whole whole
  begins x list whole e f = record {
    breaks = ap (λ j. j.breaks ++ (all (numbered x list.behind) whole).breaks) e ∙ ap (λ n. (all (numbered x n) whole).breaks) f;
    meaning = nothing_before more see (option_map list_of list.judged.meaning) (all (numbered x list.behind) whole).meaning (ap (λ j. j.meaning) e) ∙ ap (λ n. (all (numbered x n) whole).meaning) f;
    behind = ap (λ n. numbers_past (numbered x n) (count whole)) f;
  }

  pub goes_on : (step : (x : Position) (s : S) (rest : List S) → all x (s ∷ rest) ≡ made_of_both more (one x s) (all (past x (counted s)) rest))
      (counts : (s : S) (rest : List S) → count (s ∷ rest) ≡ behind (counted s) (count rest))
      (x : Position) (list new : Passed (Vec T Global)) (item : Passed T) (whole : List S) (i : ℕ) (s : S)
      → s ≡ slice_index_or whole i s → i < length whole
      → judgement see item.judged ≡ one (numbered x list.behind) s → item.behind ≡ numbers_past (numbered x list.behind) (counted s)
      → new.judged.breaks.items ≡ list.judged.breaks.items ++ item.judged.breaks.items
      → option_map list_of new.judged.meaning ≡ both one_more (option_map list_of list.judged.meaning) item.judged.meaning
      → new.behind ≡ item.behind
      → SoFar x list (drop i whole) whole → SoFar x new (drop (i + 1) whole) whole
  goes_on step counts x list new item whole i s is lt judged counts_past breaks meaning moved sofar =
      let rest = drop (i + 1) whole in
      let y = numbered x list.behind in
      let d : drop i whole ≡ s ∷ rest = item_drop whole i s is lt in
      let n : new.behind ≡ numbers_past y (counted s) = moved ∙ counts_past in
      let follows : all (numbered x new.behind) rest ≡ all (past y (counted s)) rest = ap (λ k. all (numbered x k) rest) n in
      let whole_is : all y (drop i whole) ≡ made_of_both more (one y s) (all (numbered x new.behind) rest) = ap (all y) d ∙ step y s rest ∙ ap (made_of_both more (one y s)) (sym follows) in
      record {
        breaks = turn_breaks list.judged.breaks.items item.judged.breaks.items new.judged.breaks.items (one y s).breaks (all (numbered x new.behind) rest).breaks _ _
            breaks (ap (λ j. j.breaks) judged) (ap (λ j. j.breaks) whole_is) sofar.breaks;
        meaning = turn_meaning more see (option_map list_of list.judged.meaning) (option_map list_of new.judged.meaning) item.judged.meaning (one y s).meaning (all (numbered x new.behind) rest).meaning _ _
            meaning (ap (λ j. j.meaning) judged) (ap (λ j. j.meaning) whole_is) sofar.meaning;
        behind = ap (λ k. numbers_past (numbered x k) (count rest)) n ∙ past_both y (counted s) (count rest) ∙ ap (numbers_past y) (sym (counts s rest)) ∙ ap (λ k. numbers_past y (count k)) (sym d) ∙ sofar.behind;
      }

  pub ends_judged : (nil : L) (seen : List T → L) (empty : (x : Position) → all x [] ≡ fine nil) (alone : (xs : List T) → before more see xs nil ≡ seen xs)
      (x : Position) (list : Passed (Vec T Global)) (whole : List S) (i : ℕ) → length whole ≤ i → SoFar x list (drop i whole) whole
      → judgement (λ v. seen v.items) list.judged ≡ all x whole
  ends_judged nil seen empty alone x list whole i le sofar =
      let y = numbered x list.behind in
      let e : all y (drop i whole) ≡ fine nil = ap (all y) (drop_all i whole le) ∙ empty y in
      alike _ _ _ _
      (sym (append-nil list.judged.breaks.items) ∙ ap (λ j. list.judged.breaks.items ++ j.breaks) (sym e) ∙ sofar.breaks)
      (sym (whole_list more see nil seen alone list.judged.meaning) ∙ ap (λ j. both (before more see) (option_map list_of list.judged.meaning) j.meaning) (sym e) ∙ sofar.meaning)

  pub ends_behind : (none : count [] ≡ no_count) (x : Position) (list : Passed (Vec T Global)) (whole : List S) (i : ℕ) → length whole ≤ i → SoFar x list (drop i whole) whole
      → list.behind ≡ numbers_past x (count whole)
  ends_behind none x list whole i le sofar =
      let y = numbered x list.behind in
      sym (past_nothing y) ∙ ap (numbers_past y) (sym none) ∙ ap (λ k. numbers_past y (count k)) (sym (drop_all i whole le)) ∙ sofar.behind

-- Statements

abbrev pub statements_judged : Position → List Statement → Judgement ts.Statements
statements_judged x ss = judged_statements x (statement_list ss)

abbrev pub statements_counted : List Statement → Counted
statements_counted ss = counted_statements (statement_list ss)

abbrev pub StatementsSoFar : Position → Passed (Vec TypedStatement Global) → List Statement → List Statement → Type 0
StatementsSoFar x list rest whole = SoFar ts.more_statements typed_statement statement_judged statement_counted statements_judged statements_counted x list rest whole

pub statements_alone : (xs : List TypedStatement) → before ts.more_statements typed_statement xs ts.no_statements ≡ typed_statements xs
statements_alone [] = refl
statements_alone (x ∷ xs) = ap (ts.more_statements (typed_statement x)) (statements_alone xs)

pub statements_begin : (x : Position) (list : Passed (Vec TypedStatement Global)) (whole : List Statement) → judgement list_of list.judged ≡ fine [] → list.behind ≡ numbers x → StatementsSoFar x list whole whole
statements_begin = begins ts.more_statements typed_statement statement_judged statement_counted statements_judged statements_counted

pub statements_go_on : (x : Position) (list new : Passed (Vec TypedStatement Global)) (item : Passed TypedStatement) (whole : List Statement) (i : ℕ) (s : Statement)
    → s ≡ slice_index_or whole i s → i < length whole
    → judgement typed_statement item.judged ≡ statement_judged (numbered x list.behind) s → item.behind ≡ numbers_past (numbered x list.behind) (statement_counted s)
    → new.judged.breaks.items ≡ list.judged.breaks.items ++ item.judged.breaks.items
    → option_map list_of new.judged.meaning ≡ both one_more (option_map list_of list.judged.meaning) item.judged.meaning
    → new.behind ≡ item.behind
    → StatementsSoFar x list (drop i whole) whole → StatementsSoFar x new (drop (i + 1) whole) whole
statements_go_on = goes_on ts.more_statements typed_statement statement_judged statement_counted statements_judged statements_counted (λ x s rest. more_judged x (statement s) (statement_list rest)) (λ s rest. refl)

pub statements_end_judged : (x : Position) (list : Passed (Vec TypedStatement Global)) (whole : List Statement) (i : ℕ) → length whole ≤ i → StatementsSoFar x list (drop i whole) whole → judgement block list.judged ≡ statements_judged x whole
statements_end_judged = ends_judged ts.more_statements typed_statement statement_judged statement_counted statements_judged statements_counted ts.no_statements typed_statements none_judged statements_alone

pub statements_end_behind : (x : Position) (list : Passed (Vec TypedStatement Global)) (whole : List Statement) (i : ℕ) → length whole ≤ i → StatementsSoFar x list (drop i whole) whole → list.behind ≡ numbers_past x (statements_counted whole)
statements_end_behind = ends_behind ts.more_statements typed_statement statement_judged statement_counted statements_judged statements_counted refl

-- ELSE IFs

abbrev pub else_ifs_judged : Position → List ElseIf → Judgement ts.ElseIfs
else_ifs_judged x es = judged_else_ifs x (else_ifs es)

abbrev pub else_ifs_counted : List ElseIf → Counted
else_ifs_counted es = counted_else_ifs (else_ifs es)

abbrev pub ElseIfsSoFar : Position → Passed (Vec TypedElseIf Global) → List ElseIf → List ElseIf → Type 0
ElseIfsSoFar x list rest whole = SoFar before_all else_if_parts else_if_judged else_if_counted else_ifs_judged else_ifs_counted x list rest whole

pub else_ifs_alone : (xs : List TypedElseIf) → before before_all else_if_parts xs ts.no_else_ifs ≡ typed_else_ifs xs
else_ifs_alone [] = refl
else_ifs_alone (x ∷ xs) = ap (else_if_parts x) (else_ifs_alone xs)

three_as_two : {A B L : Type 0} (f : A → B → L → L) (x : Option A) (y : Option B) (z : Option L) → three f x y z ≡ both before_all (both f x y) z
three_as_two f None y z = refl
three_as_two f (Some x) None z = refl
three_as_two f (Some x) (Some y) None = refl
three_as_two f (Some x) (Some y) (Some z) = refl

else_if_turn : {A B L : Type 0} (f : A → B → L → L) (x : Judgement A) (y : Judgement B) (z : Judgement L) → made_of_three f x y z ≡ made_of_both before_all (made_of_both f x y) z
else_if_turn f x y z = alike _ _ _ _ (sym (append_assoc x.breaks y.breaks z.breaks)) (three_as_two f x.meaning y.meaning z.meaning)

else_ifs_step : (x : Position) (s : ElseIf) (rest : List ElseIf) → else_ifs_judged x (s ∷ rest) ≡ made_of_both before_all (else_if_judged x s) (else_ifs_judged (past x (else_if_counted s)) rest)
else_ifs_step x s rest =
    more_else_ifs_judged x (expression s.condition) (statement_list s.body.items) s.at (else_ifs rest)
    ∙ else_if_turn (more_else_ifs s.at.line) (condition (placed x.scope (expression s.condition))) (judged_statements x (statement_list s.body.items)) (else_ifs_judged (past x (else_if_counted s)) rest)

pub else_ifs_begin : (x : Position) (list : Passed (Vec TypedElseIf Global)) (whole : List ElseIf) → judgement list_of list.judged ≡ fine [] → list.behind ≡ numbers x → ElseIfsSoFar x list whole whole
else_ifs_begin = begins before_all else_if_parts else_if_judged else_if_counted else_ifs_judged else_ifs_counted

pub else_ifs_go_on : (x : Position) (list new : Passed (Vec TypedElseIf Global)) (item : Passed TypedElseIf) (whole : List ElseIf) (i : ℕ) (s : ElseIf)
    → s ≡ slice_index_or whole i s → i < length whole
    → judgement else_if_parts item.judged ≡ else_if_judged (numbered x list.behind) s → item.behind ≡ numbers_past (numbered x list.behind) (else_if_counted s)
    → new.judged.breaks.items ≡ list.judged.breaks.items ++ item.judged.breaks.items
    → option_map list_of new.judged.meaning ≡ both one_more (option_map list_of list.judged.meaning) item.judged.meaning
    → new.behind ≡ item.behind
    → ElseIfsSoFar x list (drop i whole) whole → ElseIfsSoFar x new (drop (i + 1) whole) whole
else_ifs_go_on = goes_on before_all else_if_parts else_if_judged else_if_counted else_ifs_judged else_ifs_counted else_ifs_step (λ s rest. refl)

pub else_ifs_end_judged : (x : Position) (list : Passed (Vec TypedElseIf Global)) (whole : List ElseIf) (i : ℕ) → length whole ≤ i → ElseIfsSoFar x list (drop i whole) whole → judgement else_if_list list.judged ≡ else_ifs_judged x whole
else_ifs_end_judged = ends_judged before_all else_if_parts else_if_judged else_if_counted else_ifs_judged else_ifs_counted ts.no_else_ifs typed_else_ifs no_else_ifs_judged else_ifs_alone

pub else_ifs_end_behind : (x : Position) (list : Passed (Vec TypedElseIf Global)) (whole : List ElseIf) (i : ℕ) → length whole ≤ i → ElseIfsSoFar x list (drop i whole) whole → list.behind ≡ numbers_past x (else_ifs_counted whole)
else_ifs_end_behind = ends_behind before_all else_if_parts else_if_judged else_if_counted else_ifs_judged else_ifs_counted refl

-- a part that was judged, as a whole
pub passed_whole : {A B E : Type 0} (see : A → B) (r : Result (Passed A) E) (j k : Judgement B) → j ≡ k
    → IfOk r (λ p. p.judged.breaks.items ≡ j.breaks) → IfOk r (λ p. option_map see p.judged.meaning ≡ j.meaning) → IfOk r (λ p. judgement see p.judged ≡ k)
passed_whole see (Ok p) j k e b m = alike _ _ _ _ b m ∙ e
passed_whole see (Err x) j k e b m = tt

pub passed_numbers : {A E : Type 0} (r : Result (Passed A) E) (a b c d : ℕ) → a ≡ c → b ≡ d
    → IfOk r (λ p. p.behind.criticals ≡ a) → IfOk r (λ p. p.behind.literals ≡ b) → IfOk r (λ p. p.behind ≡ record { criticals = c; literals = d })
passed_numbers (Ok p) a b c d e f k l = same_numbers _ _ _ _ (k ∙ e) (l ∙ f)
passed_numbers (Err x) a b c d e f k l = tt
