-- Statements and constructs are judged soundly in a known scope.
use Rattle.std.proofs.Common.{◌≡◌, ◌+◌, Bool, true, false, List, [], ◌∷◌, ◌++◌, refl, sym}
use Rattle.std.specs.Prelude.{cond, not, nat_eq, ◌||◌, Option, Some, None, length}
use Rattle.caf_base.specs.declared.place.Pos.{Pos}
use Rattle.fortran_tree.specs.Expressions as f
use Rattle.fortran_tree.specs.Statements as fs
use Rattle.fortran_tree.specs.declared.name.Name.{Name}
use Rattle.checked_tree.specs.Expressions as t
use Rattle.checked_tree.specs.Statements as ts
use Rattle.checked_tree.specs.declared.data.DataType.{DataType}
use Rattle.checked_tree.specs.declared.data.Object.{Object}
use Rattle.checked_tree.specs.declared.data.Object.TheVariants as objects
use Rattle.checked_tree.specs.declared.statement.CaseRange.{CaseRange}
use Rattle.checked_tree.specs.declared.statement.CaseRange.TheVariants.{Value as OneValue, AtLeast, AtMost, Between}
use Rattle.rule_definitions.specs.declared.broken.Broken.{Broken}
use Rattle.rule_definitions.specs.declared.taken.Taken.TheVariants.{Integers as integers}
use Rattle.rule_definitions.specs.Judgements.{unless, is_nothing, Judgement, refused, unknown, then, is_there}
use Rattle.rule_definitions.specs.Names
use Rattle.rule_definitions.specs.Names.{Scope, Symbol, Meaning, denotes, is_integer, is_logical}
use Rattle.rule_definitions.specs.Constants.{Constancy, value, values, no_constant, value_of}
use Rattle.rule_definitions.specs.Parts.{Placed, place_of, plain, type_of, rank_of, is_listed, scalar_breaks, bound_or_code}
use Rattle.rule_definitions.specs.Expressions.{judged, judged_specifiers, placed}
use Rattle.rule_definitions.specs.Declarations.{lacks_value}
use Rattle.rule_definitions.specs.Actions.{loop, selection, critical, team_change, is_active, has_intent_in}
use Rattle.rule_definitions.specs.Statements
use Rattle.rule_definitions.specs.Statements.{Counted, counted_statement, counted_statements, counted_else_ifs, behind, Position, site_of, past, within, Control, Counter, counter_typed, counter_found, inactive, counter_symbol, counter_judged, judged_control, loop_variable, is_same_name, end_breaks, hidden_of, loop_form, selector_breaks, selecting, is_selected_type, number_of, case_constant, case_value_breaks, case_value, is_logical_selector, raw_case_breaks, no_logical, case_range, place_of_range, overlaps_one, with_range, judged_range, judged_ranges, Cases, Selected, no_selected, with_case, with_default, select_form, bracketed, critical_form, team_form, if_form, more_else_ifs, behind_case, case_joined, on_line, judged_statement, judged_statements, judged_else_ifs, judged_else, judged_cases}
use Rattle.rule_laws.proofs.Sound.{AreNumbered, IsSound, none_numbered, cond_numbered, unless_numbered, both_numbered, right_nothing, fine_sound, refused_sound, unknown_sound, ruled_plain, under_sound, made_sound, made_of_both_sound, made_of_three_sound, then_plain, then_sound, under_meaning}
use Rattle.rule_laws.proofs.Known.{is_placed, AreKnown, and_left, no}
use Rattle.rule_laws.proofs.PartsSound.{plain_sound, wanted_sound, unlike_numbered, scalar_numbered}
use Rattle.rule_laws.proofs.ArgumentsSound.{unless_nothing}
use Rattle.rule_laws.proofs.FunctionsSound.{team_sound}
use Rattle.rule_laws.proofs.SpecifiersSound.{AllWritten}
use Rattle.rule_laws.proofs.SubroutinesSound.{four_sound}
use Rattle.rule_laws.proofs.AssignmentsSound.{IsSettled, settled_sound, written_all}
use Rattle.rule_laws.proofs.ActionsSound.{action_sound, condition_sound, controlled_sound, maybe_wanted, with_stat_sound}
use Rattle.rule_laws.proofs.References.{is_array}
use Rattle.rule_laws.proofs.Ranks.{judged_ranked}

-- DO

found_sound : {H : Type 0} (o : Option Counter) (p : Pos) → IsSound H (counter_found o p)
found_sound None p = refused_sound 40 p refl
found_sound (Some c) p = fine_sound c

counter_any : {H : Type 0} (x : Position) (y : Symbol) (p : Pos) (o : Object) (u : Option DataType) → (H → is_there u ≡ true)
    → IsSound H (elim o [ objects.Local l ↦ elim u [ None ↦ unknown {T = Counter} | Some v ↦ then (counter_found (counter_typed l (length y.bounds) v) p) (inactive x y p) ] | objects.Coarray n ↦ refused {T = Counter} 40 p | objects.Constant n ↦ refused {T = Counter} 40 p ])
counter_any x y p (objects.Local l) None h = unknown_sound (λ z. no (h z))
counter_any x y p (objects.Local l) (Some v) h = then_plain (inactive x y p) (found_sound (counter_typed l (length y.bounds) v) p) (λ c. ruled_plain (fine_sound c) (unless_numbered (not (is_active c.variable x.around || has_intent_in (Some y))) 32 p refl))
counter_any x y p (objects.Coarray n) u h = refused_sound 40 p refl
counter_any x y p (objects.Constant n) u h = refused_sound 40 p refl

counter_sound : (H : Type 0) (x : Position) (m : Option Meaning) (p : Pos) → (H → AreKnown x.scope.interfaces m) → IsSound H (counter_judged x m p)
counter_sound H x None p h = refused_sound 20 p refl
counter_sound H x (Some (Names.variable y)) p h = counter_any x y p y.object y.of_type (λ z. and_left (is_there y.of_type) (is_placed y.of_type y.object) ((h z).known (Names.variable y) refl))
counter_sound H x (Some m) p h = refused_sound 40 p refl

wanted_integer : (s : Scope) (e : f.Expression) → IsSound (IsSettled s) (bound_or_code (placed s e))
wanted_integer s e = wanted_sound integers (placed s e) (settled_sound s e)

control_sound : (x : Position) (k : fs.LoopControl) → IsSound (IsSettled x.scope) (judged_control x k)
control_sound x fs.unlimited = fine_sound Statements.forever
control_sound x (fs.while e) = made_sound Statements.while (condition_sound x.scope e)
control_sound x (fs.counted n a b c) = four_sound (λ v l u k. Statements.counted v.variable v.kind l u k) (counter_sound (IsSettled x.scope) x (denotes x.scope n.text) n.at (λ z. (z.0).known n.text)) (wanted_integer x.scope a) (wanted_integer x.scope b) (maybe_wanted x.scope c)

pub end_numbered : (n m : Option Name) → AreNumbered (end_breaks n m)
end_numbered n None = none_numbered
end_numbered n (Some m) = unless_numbered (is_same_name n m) 41 m.at refl

-- SELECT CASE

selecting_sound : {H : Type 0} (e : Placed) → IsSound H e.judged → IsSound H (selecting e)
selecting_sound e h = under_sound (selector_breaks e.at) (plain_sound e h)
    (λ x k. both_numbered (cond_numbered (is_integer (type_of x) || is_logical (type_of x)) none_numbered (unlike_numbered 44 (type_of x) e.at refl)) (scalar_numbered (rank_of x) e.at))

constant_sound : {H : Type 0} (p : Pos) (c : Constancy) → (H → is_array c ≡ false) → IsSound H (case_constant p c)
constant_sound p (value v) h = fine_sound (number_of v)
constant_sound p (values ns vs) h = unknown_sound (λ z. no (sym (h z)))
constant_sound p no_constant h = refused_sound 44 p refl

lacking_flat : (b : Bool) (c : Constancy) → is_array c ≡ false → is_array (cond b no_constant c) ≡ false
lacking_flat true c e = refl
lacking_flat false c e = e

case_sound : (s : Scope) (x : Option t.Expression) (e : f.Expression) → IsSound (IsSettled s) (case_value s x e)
case_sound s x e = then_sound (λ v. case_constant (place_of e) (cond (lacks_value s e) no_constant (value_of s v)))
    (under_sound (case_value_breaks x (place_of e)) (plain_sound (placed s e) (settled_sound s e)) (λ v k. both_numbered (unless_numbered (is_selected_type x (type_of v)) 44 (place_of e) refl) (scalar_numbered (rank_of v) (place_of e))))
    (λ v k. (
    let g = under_meaning (plain (placed s e)) (case_value_breaks x (place_of e)) v k in
    let m = under_meaning (judged s e) (λ y. unless (not (is_listed y)) 56 (place_of e)) v (g.0) in
    let r = unless_nothing (nat_eq (rank_of v) 0) 37 (place_of e) (right_nothing (unless (is_selected_type x (type_of v)) 44 (place_of e)) (scalar_breaks (rank_of v) (place_of e)) (g.1)) in
    constant_sound (place_of e) (cond (lacks_value s e) no_constant (value_of s v)) (λ z. lacking_flat (lacks_value s e) (value_of s v) ((judged_ranked s ((z.0).0) e).each v (m.0) r))))

logical_numbered : (x : Option t.Expression) (bs : List Broken) (p : Pos) → AreNumbered (no_logical x bs p)
logical_numbered x bs p = cond_numbered (is_nothing bs) (unless_numbered (not (is_logical_selector x)) 44 p refl) none_numbered

range_sound : (s : Scope) (x : Option t.Expression) (r : fs.CaseRange) → IsSound (IsSettled s) (case_range s x r)
range_sound s x (fs.single e) = made_sound OneValue (case_sound s x e)
range_sound s x (fs.at_least e) = ruled_plain (made_sound AtLeast (case_sound s x e)) (logical_numbered x (raw_case_breaks s e) (place_of e))
range_sound s x (fs.at_most e p) = ruled_plain (made_sound AtMost (case_sound s x e)) (logical_numbered x (raw_case_breaks s e) p)
range_sound s x (fs.between a b) = ruled_plain (made_of_both_sound Between (case_sound s x a) (case_sound s x b)) (logical_numbered x (raw_case_breaks s a ++ raw_case_breaks s b) (place_of a))

ranges_sound : (s : Scope) (x : Option t.Expression) (before : List CaseRange) (rs : List fs.CaseRange) → IsSound (IsSettled s) (judged_ranges s x before rs)
ranges_sound s x before [] = fine_sound []
ranges_sound s x before (r ∷ rest) = made_of_both_sound (λ c cs. c ∷ cs)
    (under_sound (λ c. unless (not (overlaps_one before c)) 44 (place_of_range r)) (range_sound s x r) (λ c k. unless_numbered (not (overlaps_one before c)) 44 (place_of_range r) refl))
    (ranges_sound s x (with_range before (case_range s x r).meaning) rest)

joined_sound : (s : Scope) (k : Cases) (y : fs.CaseSelector) (p : Pos) {a : Judgement ts.Statements} {b : Judgement Selected} → IsSound (IsSettled s) a → IsSound (IsSettled s) b → IsSound (IsSettled s) (case_joined s k y p a b)
joined_sound s k fs.default p h g = ruled_plain (made_of_both_sound with_default h g) (unless_numbered (not k.has_default) 44 p refl)
joined_sound s k (fs.ranges rs) p h g = made_of_three_sound (with_case p.line) (ranges_sound s k.selector k.ranges rs) h g

bracketed_all : (s : Scope) (b : fs.BracketedSpecifier) → AllWritten (IsSettled s) (bracketed s b)
bracketed_all s (fs.present n e) = (settled_sound s e, tt)
bracketed_all s fs.absent = tt
bracketed_all s fs.empty = tt

line_sound : {H : Type 0} (p : Pos) {j : Judgement ts.StatementForm} → IsSound H j → IsSound H (on_line p j)
line_sound p h = made_sound (λ x. ts.on_line x p.line) h

mutual
  unfolding judged_statement judged_statements judged_else_ifs judged_else judged_cases

  statement_sound : (x : Position) (y : fs.Statement) → IsSound (IsSettled x.scope) (judged_statement x y)
  statement_sound x (fs.action a p) = line_sound p (action_sound (site_of x) a p)
  statement_sound x (fs.if_construct e body eis o p q) = line_sound p (four_sound if_form (condition_sound x.scope e) (statements_sound x body) (else_ifs_sound (past x (counted_statements body)) eis) (else_sound (past x (behind (counted_statements body) (counted_else_ifs eis))) o))
  statement_sound x (fs.do_construct n k body p end) = line_sound p (ruled_plain (made_of_both_sound (loop_form (hidden_of x.around)) (control_sound x k) (statements_sound (within x (loop n (loop_variable x k))) body)) (end_numbered n end.name))
  statement_sound x (fs.case_construct e cs p q) = line_sound p (made_of_both_sound (select_form (hidden_of x.around)) (selecting_sound (placed x.scope e) (settled_sound x.scope e)) (cases_sound (within x selection) (record { selector = (selecting (placed x.scope e)).meaning; ranges = []; has_default = false }) cs))
  statement_sound x (fs.critical_construct y body p q) = line_sound p (controlled_sound (site_of x) p (made_of_both_sound (critical_form (x.criticals + 1) q.line) (with_stat_sound (IsSettled x.scope) (bracketed x.scope y) (bracketed_all x.scope y)) (statements_sound (within (record x { criticals = x.criticals + 1 }) critical) body)))
  statement_sound x (fs.change_team_construct e ps body y p q) = line_sound p (controlled_sound (site_of x) p (four_sound (team_form q.line) (team_sound (placed x.scope e) (settled_sound x.scope e)) (with_stat_sound (IsSettled x.scope) (judged_specifiers x.scope ps) (written_all x.scope ps)) (statements_sound (within x team_change) body) (with_stat_sound (IsSettled x.scope) (bracketed x.scope y) (bracketed_all x.scope y))))

  pub statements_sound : (x : Position) (ys : fs.Statements) → IsSound (IsSettled x.scope) (judged_statements x ys)
  statements_sound x fs.no_statements = fine_sound ts.no_statements
  statements_sound x (fs.more_statements y rest) = made_of_both_sound ts.more_statements (statement_sound x y) (statements_sound (past x (counted_statement y)) rest)

  else_ifs_sound : (x : Position) (ys : fs.ElseIfBlocks) → IsSound (IsSettled x.scope) (judged_else_ifs x ys)
  else_ifs_sound x fs.no_else_ifs = fine_sound ts.no_else_ifs
  else_ifs_sound x (fs.more_else_ifs e body p rest) = made_of_three_sound (more_else_ifs p.line) (condition_sound x.scope e) (statements_sound x body) (else_ifs_sound (past x (counted_statements body)) rest)

  else_sound : (x : Position) (o : fs.ElseBlock) → IsSound (IsSettled x.scope) (judged_else x o)
  else_sound x fs.no_else_block = fine_sound ts.no_statements
  else_sound x (fs.else_block body p) = statements_sound x body

  cases_sound : (x : Position) (k : Cases) (cs : fs.CaseBlocks) → IsSound (IsSettled x.scope) (judged_cases x k cs)
  cases_sound x k fs.no_case_blocks = fine_sound no_selected
  cases_sound x k (fs.more_case_blocks y body p rest) = joined_sound x.scope k y p (statements_sound x body) (cases_sound (past x (counted_statements body)) (behind_case x.scope k y) rest)
