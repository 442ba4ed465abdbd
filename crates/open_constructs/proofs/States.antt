-- What a place of a file has open is what the parts before it leave open.
use Rattle.std.proofs.Common.{◌≡◌, ℕ, zero, suc, Bool, true, false, cond, List, [], ◌∷◌, length, inl, inr, refl, ap, sym, ◌∙◌, subst}
use Rattle.std.proofs.lemmas.Bool.{false≢true, true≢false}
use Rattle.caf_base.specs.declared.place.Pos.{Pos}
use Rattle.reader_theory.specs.Words.{Mark}
use Rattle.fortran_tree.specs.Units as u
use Rattle.fortran_tree.specs.Units.{Heading}
use Rattle.fortran_grammar.specs.Tokens.{Token}
use Rattle.fortran_grammar.specs.Phrases.{Words}
use Rattle.statement_reader.specs.Parts as f
use Rattle.statement_reader.specs.Parts.{Part, Form, is_of, formed}
use Rattle.program_reader.specs.Sequence as q
use Rattle.program_reader.specs.Sequence.{Stage, Scope, Open, State, action_forms, block_forms, stage_forms, scope_forms, allowed_behind, allowed, staged, first_changed, without_first, unit_of, place_of, to_else, to_case, next}
use Rattle.program_reader.specs.Unfinished.{Parts_from, behind, innermost}
use Rattle.program_reader.proofs.Steps.{In, which}
use Rattle.open_constructs.proofs.Spans.{turn, others, turned, open_behind, top}

-- what is open at a place, the innermost first: its blocks, and around them the procedure
abbrev unit_place : Scope → List Pos
unit_place (q.in_subroutine at t) = at ∷ []
unit_place (q.in_function at t) = at ∷ []
unit_place k = []

abbrev pub open_in : List Open → Scope → List Pos
open_in [] k = unit_place k
open_in (o ∷ os) k = place_of o ∷ open_in os k

abbrev pub open_at : State → List Pos
open_at s = open_in s.blocks s.scope

top_of_unit : (k : Scope) (first : Pos) → innermost k [] first ≡ top first (unit_place k)
top_of_unit (q.main_program t) first = refl
top_of_unit q.between first = refl
top_of_unit (q.in_subroutine at t) first = refl
top_of_unit (q.in_function at t) first = refl
top_of_unit q.over first = refl

pub top_open : (os : List Open) (k : Scope) (first : Pos) → innermost k os first ≡ top first (open_in os k)
top_open [] k first = top_of_unit k first
top_open (o ∷ os) k first = refl

-- a stage of a unit changes nothing
unit_kept : (t : Stage) (k : Scope) → unit_place (staged t k) ≡ unit_place k
unit_kept t (q.main_program s) = refl
unit_kept t q.between = refl
unit_kept t (q.in_subroutine at s) = refl
unit_kept t (q.in_function at s) = refl
unit_kept t q.over = refl

stage_kept : (t : Stage) (os : List Open) (k : Scope) → open_in os (staged t k) ≡ open_in os k
stage_kept t [] k = unit_kept t k
stage_kept t (o ∷ os) k = ap (λ l. place_of o ∷ l) (stage_kept t os k)

-- Which forms a place doesn't allow.
abbrev ends_block : Form → Bool
ends_block f.end_if_form = true
ends_block f.end_do_form = true
ends_block f.end_select_form = true
ends_block f.end_critical_form = true
ends_block f.end_team_form = true
ends_block i = false

-- in a unit alone, with no block open
abbrev of_unit : Form → Bool
of_unit f.contains_form = true
of_unit f.subroutine_form = true
of_unit f.function_form = true
of_unit f.end_subroutine_form = true
of_unit f.end_function_form = true
of_unit f.end_program_form = true
of_unit i = false

-- outside of procedures alone
abbrev of_main : Form → Bool
of_main f.contains_form = true
of_main f.subroutine_form = true
of_main f.function_form = true
of_main f.end_program_form = true
of_main i = false

abbrev none_of : (Form → Bool) → List Form → Bool
none_of test [] = true
none_of test (i ∷ is) = cond (test i) false (none_of test is)

fails : (test : Form → Bool) (i : Form) (is : List Form) → none_of test is ≡ true → In i is → test i ≡ false
fails test i [] e m = absurd m
fails test i (j ∷ js) e (inl same) = subst (λ k. test k ≡ false) (sym same) (by_test (test j) e)
  where
    by_test : (z : Bool) → cond z false (none_of test js) ≡ true → z ≡ false
    by_test true k = absurd (false≢true k)
    by_test false k = refl
fails test i (j ∷ js) e (inr m) = fails test i js (by_test (test j) e) m
  where
    by_test : (z : Bool) → cond z false (none_of test js) ≡ true → none_of test js ≡ true
    by_test true k = absurd (false≢true k)
    by_test false k = k

isnt_among : (test : Form → Bool) (i : Form) (is : List Form) → none_of test is ≡ true → In i is → test i ≡ true → ⊥
isnt_among test i is e m k = true≢false (sym k ∙ fails test i is e m)

stage_ends_none : (t : Stage) → none_of ends_block (stage_forms t) ≡ true
stage_ends_none q.starting = refl
stage_ends_none q.in_uses = refl
stage_ends_none q.opening = refl
stage_ends_none q.in_declarations = refl
stage_ends_none q.in_statements = refl

unit_ends_none : (k : Scope) → none_of ends_block (scope_forms k) ≡ true
unit_ends_none (q.main_program t) = stage_ends_none t
unit_ends_none q.between = refl
unit_ends_none (q.in_subroutine at t) = stage_ends_none t
unit_ends_none (q.in_function at t) = stage_ends_none t
unit_ends_none q.over = refl

block_has_none : (o : Open) → none_of of_unit (block_forms o) ≡ true
block_has_none (q.if_open at) = refl
block_has_none (q.else_open at) = refl
block_has_none (q.do_open at) = refl
block_has_none (q.select_open at) = refl
block_has_none (q.case_open at) = refl
block_has_none (q.critical_open at) = refl
block_has_none (q.team_open at) = refl

stage_has_none : (t : Stage) → none_of of_main (stage_forms t) ≡ true
stage_has_none q.starting = refl
stage_has_none q.in_uses = refl
stage_has_none q.opening = refl
stage_has_none q.in_declarations = refl
stage_has_none q.in_statements = refl

-- where the form of a unit is allowed no block is open
no_block : (i : Form) (n : ℕ) (os : List Open) (k : Scope) → In i (allowed_behind n k os) → of_unit i ≡ true → os ≡ []
no_block i (suc n) os k m e = absurd (isnt_among of_unit i action_forms refl m e)
no_block i zero [] k m e = refl
no_block i zero (o ∷ os) k m e = absurd (isnt_among of_unit i (block_forms o) (block_has_none o) m e)

-- and no procedure, where it is one of the main program's
no_procedure : (i : Form) (n : ℕ) (k : Scope) → In i (allowed_behind n k []) → of_main i ≡ true → unit_place k ≡ []
no_procedure i (suc n) k m e = absurd (isnt_among of_main i action_forms refl m e)
no_procedure i zero (q.main_program t) m e = refl
no_procedure i zero q.between m e = refl
no_procedure i zero (q.in_subroutine at t) m e = absurd (isnt_among of_main i (scope_forms (q.in_subroutine at t)) (stage_has_none t) m e)
no_procedure i zero (q.in_function at t) m e = absurd (isnt_among of_main i (scope_forms (q.in_function at t)) (stage_has_none t) m e)
no_procedure i zero q.over m e = refl

of_main_unit : (i : Form) → of_main i ≡ true → of_unit i ≡ true
of_main_unit f.contains_form e = refl
of_main_unit f.subroutine_form e = refl
of_main_unit f.function_form e = refl
of_main_unit f.end_program_form e = refl
of_main_unit i e = absurd (false≢true e)

nothing_open : (i : Form) (n : ℕ) (os : List Open) (k : Scope) → In i (allowed_behind n k os) → of_main i ≡ true → open_in os k ≡ []
nothing_open i n os k m e =
    let none = no_block i n os k m (of_main_unit i e) in
    ap (λ l. open_in l k) none ∙ no_procedure i n k (subst (λ l. In i (allowed_behind n k l)) none m) e

-- The form of a part.
end_if_form : (at : Pos) (i : Form) → is_of i (f.end_if_part at) ≡ true → ends_block i ≡ true
end_if_form at f.end_if_form e = refl
end_if_form at i e = absurd (false≢true e)

end_do_form : (n : _) (at : Pos) (i : Form) → is_of i (f.end_do_part n at) ≡ true → ends_block i ≡ true
end_do_form n at f.end_do_form e = refl
end_do_form n at i e = absurd (false≢true e)

end_select_form : (at : Pos) (i : Form) → is_of i (f.end_select_part at) ≡ true → ends_block i ≡ true
end_select_form at f.end_select_form e = refl
end_select_form at i e = absurd (false≢true e)

end_critical_form : (at : Pos) (i : Form) → is_of i (f.end_critical_part at) ≡ true → ends_block i ≡ true
end_critical_form at f.end_critical_form e = refl
end_critical_form at i e = absurd (false≢true e)

end_team_form : (x : _) (at : Pos) (i : Form) → is_of i (f.end_team_part x at) ≡ true → ends_block i ≡ true
end_team_form x at f.end_team_form e = refl
end_team_form x at i e = absurd (false≢true e)

contains_form : (i : Form) → is_of i f.contains_part ≡ true → of_main i ≡ true
contains_form f.contains_form e = refl
contains_form i e = absurd (false≢true e)

heading_form : (x : Heading) (at : Pos) (i : Form) → is_of i (f.heading_part x at) ≡ true → of_main i ≡ true
heading_form (u.subroutine r n ns) at f.subroutine_form e = refl
heading_form (u.subroutine r n ns) at i e = absurd (false≢true e)
heading_form (u.function ps n ns r) at f.function_form e = refl
heading_form (u.function ps n ns r) at i e = absurd (false≢true e)

end_subroutine_form : (n : _) (at : Pos) (i : Form) → is_of i (f.end_subroutine_part n at) ≡ true → of_unit i ≡ true
end_subroutine_form n at f.end_subroutine_form e = refl
end_subroutine_form n at i e = absurd (false≢true e)

end_function_form : (n : _) (at : Pos) (i : Form) → is_of i (f.end_function_part n at) ≡ true → of_unit i ≡ true
end_function_form n at f.end_function_form e = refl
end_function_form n at i e = absurd (false≢true e)

end_program_form : (n : _) (at : Pos) (i : Form) → is_of i (f.end_program_part n at) ≡ true → of_main i ≡ true
end_program_form n at f.end_program_form e = refl
end_program_form n at i e = absurd (false≢true e)

-- What a part makes of a place is what it makes of what is open there.
same_places : (g : Open → Open) → ((o : Open) → place_of (g o) ≡ place_of o) → (os : List Open) (k : Scope) → open_in (first_changed g os) k ≡ open_in os k
same_places g h [] k = refl
same_places g h (o ∷ os) k = ap (λ p. p ∷ open_in os k) (h o)

one_fewer : (i : Form) (n : ℕ) (os : List Open) (k : Scope) → In i (allowed_behind n k os) → ends_block i ≡ true → open_in (without_first os) k ≡ others (open_in os k)
one_fewer i n (o ∷ os) k m e = refl
one_fewer i zero [] k m e = absurd (isnt_among ends_block i (scope_forms k) (unit_ends_none k) m e)
one_fewer i (suc n) [] k m e = absurd (isnt_among ends_block i action_forms refl m e)

unit_over : (i : Form) (n : ℕ) (os : List Open) (k : Scope) → In i (allowed_behind n k os) → of_unit i ≡ true → open_in os q.between ≡ others (open_in os k)
unit_over i n os k m e = let none = no_block i n os k m e in subst (λ l. open_in l q.between ≡ others (open_in l k)) (sym none) (by_scope k)
  where
    by_scope : (k : Scope) → open_in [] q.between ≡ others (open_in [] k)
    by_scope (q.main_program t) = refl
    by_scope q.between = refl
    by_scope (q.in_subroutine at t) = refl
    by_scope (q.in_function at t) = refl
    by_scope q.over = refl

main_goes_on : (i : Form) (n : ℕ) (os : List Open) (k j : Scope) → In i (allowed_behind n k os) → of_main i ≡ true → unit_place j ≡ [] → open_in os j ≡ open_in os k
main_goes_on i n os k j m e h =
    let none = no_block i n os k m (of_main_unit i e) in ap (λ l. open_in l j) none ∙ (h ∙ sym (nothing_open i n os k m e))

procedure_begins : (x : Heading) (at : Pos) (i : Form) (n : ℕ) (os : List Open) (k : Scope) → In i (allowed_behind n k os) → of_main i ≡ true → open_in os (unit_of x at) ≡ at ∷ open_in os k
procedure_begins x at i n os k m e =
    let none = no_block i n os k m (of_main_unit i e) in ap (λ l. open_in l (unit_of x at)) none ∙ (by_heading x ∙ ap (λ l. at ∷ l) (sym (nothing_open i n os k m e)))
  where
    by_heading : (x : Heading) → unit_place (unit_of x at) ≡ at ∷ []
    by_heading (u.subroutine r n ns) = refl
    by_heading (u.function ps n ns r) = refl

part_turns : (s : State) (i : Form) (b : Part) → In i (allowed s) → is_of i b ≡ true → open_at (next s b) ≡ turned (turn b) (open_at s)
part_turns s i (f.program_part n) m e = stage_kept q.in_uses s.blocks s.scope
part_turns s i (f.use_part x) m e = stage_kept q.in_uses s.blocks s.scope
part_turns s i (f.implicit_part at) m e = stage_kept q.in_declarations s.blocks s.scope
part_turns s i (f.declaration_part d) m e = stage_kept q.in_declarations s.blocks s.scope
part_turns s i (f.action_part x at) m e = stage_kept q.in_statements s.blocks s.scope
part_turns s i (f.condition_part x at) m e = stage_kept q.in_statements s.blocks s.scope
part_turns s i (f.if_part x at) m e = ap (λ l. at ∷ l) (stage_kept q.in_statements s.blocks s.scope)
part_turns s i (f.else_if_part x at) m e = same_places (λ o. o) (λ o. refl) s.blocks s.scope
part_turns s i (f.else_part at) m e = same_places to_else (λ o. refl) s.blocks s.scope
part_turns s i (f.end_if_part at) m e = one_fewer i s.conditions s.blocks s.scope m (end_if_form at i e)
part_turns s i (f.do_part n k at) m e = ap (λ l. at ∷ l) (stage_kept q.in_statements s.blocks s.scope)
part_turns s i (f.end_do_part n at) m e = one_fewer i s.conditions s.blocks s.scope m (end_do_form n at i e)
part_turns s i (f.select_part x at) m e = ap (λ l. at ∷ l) (stage_kept q.in_statements s.blocks s.scope)
part_turns s i (f.case_part x at) m e = same_places to_case (λ o. refl) s.blocks s.scope
part_turns s i (f.end_select_part at) m e = one_fewer i s.conditions s.blocks s.scope m (end_select_form at i e)
part_turns s i (f.critical_part x at) m e = ap (λ l. at ∷ l) (stage_kept q.in_statements s.blocks s.scope)
part_turns s i (f.end_critical_part at) m e = one_fewer i s.conditions s.blocks s.scope m (end_critical_form at i e)
part_turns s i (f.team_part x ps at) m e = ap (λ l. at ∷ l) (stage_kept q.in_statements s.blocks s.scope)
part_turns s i (f.end_team_part x at) m e = one_fewer i s.conditions s.blocks s.scope m (end_team_form x at i e)
part_turns s i f.contains_part m e = main_goes_on i s.conditions s.blocks s.scope q.between m (contains_form i e) refl
part_turns s i (f.heading_part x at) m e = procedure_begins x at i s.conditions s.blocks s.scope m (heading_form x at i e)
part_turns s i (f.end_subroutine_part n at) m e = unit_over i s.conditions s.blocks s.scope m (end_subroutine_form n at i e)
part_turns s i (f.end_function_part n at) m e = unit_over i s.conditions s.blocks s.scope m (end_function_form n at i e)
part_turns s i (f.end_program_part n at) m e = main_goes_on i s.conditions s.blocks s.scope q.over m (end_program_form n at i e) refl

pub has_form : (i : Form) (n l d : ℕ) (b : Part) (w : List (Mark Token)) → Words (formed i n b) l d w → is_of i b ≡ true
has_form f.assignment_form n l d b w o = o.0
has_form f.keyword_form n l d b w o = o.0
has_form i n l d b w o = o.0

-- what parts leave open is what is open at the place behind them
pub parts_leave : (limit : ℕ) (s : State) (bs : List Part) (w : List (Mark Token)) → Parts_from limit s bs w → open_at (behind s bs) ≡ open_behind bs (open_at s)
parts_leave limit s [] w h = refl
parts_leave limit s (b ∷ bs) w (u, v, h, r, split) =
    let (i, m, k) = which limit (allowed s) (length s.blocks) s.conditions b u h in
    parts_leave limit (next s b) bs v r ∙ ap (λ l. open_behind bs l) (part_turns s i b m (has_form i s.conditions limit (length s.blocks) b u k))
