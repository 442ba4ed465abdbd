-- Each statement leaves the stack as it was, and each test its truth value: the bodies of a program are even.
use Rattle.std.proofs.Common.{◌≡◌, ℕ, ◌+◌, List, [], ◌∷◌, ◌++◌, refl, subst, arith}
use Rattle.std.specs.Prelude.{pos, Option, Some, None}
use Rattle.caf_base.specs.declared.value.Kind.{Kind}
use Rattle.walk_theory.specs.Syntax.{Parts, Steps}
use Rattle.code_heights.specs.MadeHeights.{Leaves, IsEven, IsEvenForm, AreEven, AllEven}
use Rattle.checked_tree.specs.declared.data.Local.{Local}
use Rattle.checked_tree.specs.declared.statement.CaseRange.{CaseRange}
use Rattle.checked_tree.specs.declared.statement.CaseRange.TheVariants as ranges
use Rattle.checked_tree.specs.Expressions as t
use Rattle.checked_tree.specs.Statements as s
use Rattle.image_acts.specs.Acts as a
use Rattle.image_acts.specs.Acts.{Act, Scope, here, host}
use Rattle.image_code.specs.Sizes.{numbers, arrays_loaded, act_size}
use Rattle.image_code.specs.Levels.{Part, of_numbers, of_arrays, of_texts, tested_of, taken_of, left_of}
use Rattle.tree_meaning.specs.Environment.{Environment, scope_of, hidden_cell, procedure_in}
use Rattle.tree_meaning.specs.Sequences.{◌▸◌, doing, released}
use Rattle.tree_meaning.specs.Expressions as view
use Rattle.tree_meaning.specs.ImageControl as control
use Rattle.tree_meaning.specs.Pieces.{written_dummies}
use Rattle.tree_meaning.specs.Forms.{in_range, in_more_ranges, in_ranges, parameter, do_start, called, form, steps, else_ifs, cases, environment_of, procedure_bodies, bodies}
use Rattle.made_code.specs.Ranks as ranks
use Rattle.made_code.specs.Ranks.{GivesNothing, IsRankedProgram}
use Rattle.made_code.proofs.Turns.{Turns, closes, ended, acts, ◌⨾◌, part}
use Rattle.made_code.proofs.Forms.{none, idle, one_act, pushed}
use Rattle.made_code.proofs.Calls.{passed_arrays, all_go}
use Rattle.made_code.proofs.Calls as calls
use Rattle.made_code.proofs.Expressions.{scalar_turns, arguments_turns}
use Rattle.made_code.proofs.Assignments.{free_again, assignment_turns, images_turns, output_turns}
use Rattle.made_code.proofs.ImageControl.{or_number, sync_all_turns, sync_memory_turns, sync_images_turns, sync_team_turns, form_team_turns, lock_turns, unlock_turns, post_turns, wait_turns, critical_turns, end_critical_turns, change_team_turns, end_team_turns}
use Rattle.made_code.proofs.Subroutines.{subroutine_turns}
use Rattle.made_code.proofs.Allocation.{allocate_turns, deallocate_turns}

-- ---- cases of SELECT
range_then : (x : ℕ) (r : CaseRange) (k m : ℕ) (rest : List Act) → Turns (numbers (k + 1) m) (doing rest) → Turns (numbers k m) (doing (in_range x r ++ rest))
range_then x (ranges.Value v) k m rest h = closes (acts (acts (acts (part h)))) (omega arith)
range_then x (ranges.AtLeast v) k m rest h = closes (acts (acts (acts (part h)))) (omega arith)
range_then x (ranges.AtMost v) k m rest h = closes (acts (acts (acts (part h)))) (omega arith)
range_then x (ranges.Between v w) k m rest h = closes (acts (acts (acts (acts (acts (acts (acts (part h)))))))) (omega arith)

more_ranges : (x : ℕ) (rs : List CaseRange) → Turns (numbers 1 1) (doing (in_more_ranges x rs))
more_ranges x [] = closes ended (omega arith)
more_ranges x (r ∷ rs) = range_then x r 1 1 (a.operator a.any_of ∷ in_more_ranges x rs) (closes (acts (part (more_ranges x rs))) (omega arith))

any_range : (x : ℕ) (rs : List CaseRange) → Turns (numbers 0 1) (doing (in_ranges x rs))
any_range x [] = one_act
any_range x (r ∷ rs) = range_then x r 0 1 (in_more_ranges x rs) (more_ranges x rs)

-- ---- CALL
no_result : (u : s.Unit') (o : Option ℕ) → GivesNothing o → (view.result_numbers u o ≡ 0) × (arrays_loaded (view.result_rank u o) ≡ 0)
no_result u None h = (refl, refl)
no_result u (Some x) h = absurd h

module _ (e : Environment) where
  subroutine_called : (n : ℕ) (p : s.Procedure) (es : t.Arguments) → GivesNothing p.answer → ranks.ArePassed e.program.procedures p.unit.variables p.dummies es → Turns none (called e n p es)
  subroutine_called n p es g h =
      let f = no_result p.unit p.answer g in
      closes (part (arguments_turns e p.unit.variables p.dummies es h) ⨾ part (calls.called n p (view.passed p.unit.variables p.dummies es) (all_go p.unit.variables p.dummies es))) (omega arith)

  -- ---- DO
  parameter_turns : (k : Kind) {p : Parts Act} → Turns (numbers 0 1) p → Turns (numbers 0 1) (parameter e k p)
  parameter_turns k h = closes (part h ⨾ acts ended) (omega arith)

  do_turns : (v : Local) (k : Kind) (first last : t.Expression) (step : t.OptionalExpression) (x : ℕ) → ranks.IsOfRank e.program.procedures first 0 → ranks.IsOfRank e.program.procedures last 0
      → ranks.IsOptionalScalar e.program.procedures step → Turns none (do_start e v k first last step x)
  do_turns v k first last step x f g h =
      closes (part (parameter_turns k (scalar_turns e first f)) ⨾ part (parameter_turns k (scalar_turns e last g)) ⨾ part (parameter_turns k (or_number e step h (pushed (pos 1)))) ⨾ acts ended) (omega arith)

  stopped : (x : t.OptionalExpression) (ask' : a.AskAct) {p : Parts Act} → act_size (a.ask ask') ≡ numbers 1 0 → ranks.IsOptionalScalar e.program.procedures x → Turns (numbers 0 1) p
      → Turns none (control.or_number e x p ▸ doing (a.ask ask' ∷ []))
  stopped x ask' z h k = closes (part (or_number e x h k) ⨾ part (subst (λ w. Turns w (doing (a.ask ask' ∷ []))) z one_act)) (omega arith)

-- a statement, and a test, by themselves
level : (x : Part) {p : Parts Act} → Turns none p → Leaves (tested_of x) (taken_of x) (left_of x) 0 p
level of_numbers h = h.runs of_numbers 0
level of_arrays h = h.runs of_arrays 0
level of_texts h = h.runs of_texts 0

test : (x : Part) {p : Parts Act} → Turns (numbers 0 1) p → Leaves (tested_of x) (taken_of x) (left_of x) (tested_of x) p
test of_numbers h = h.runs of_numbers 0
test of_arrays h = h.runs of_arrays 0
test of_texts h = h.runs of_texts 0

simple : (x : Part) {p : Parts Act} → Turns none p → Leaves (tested_of x) (taken_of x) (left_of x) 0 (released p)
simple x h = level x (free_again h)

condition : (e : Environment) (x : Part) (c : t.Expression) → ranks.IsOfRank e.program.procedures c 0 → Leaves (tested_of x) (taken_of x) (left_of x) (tested_of x) (released (view.expression e c))
condition e x c h = test x (free_again (scalar_turns e c h))

select_turns : (e : Environment) (c : t.Expression) (n : ℕ) → ranks.IsOfRank e.program.procedures c 0 → Turns none (released (view.expression e c) ▸ doing (a.variable (a.store here n) ∷ []))
select_turns e c n h = closes (part (free_again (scalar_turns e c h)) ⨾ acts ended) (omega arith)

module _ (e : Environment) (x : Part) where
  mutual
    form_even : (l : ℕ) (f : s.StatementForm) → ranks.IsStatement e.program.procedures f → IsEvenForm (tested_of x) (taken_of x) (left_of x) (form e l f)
    form_even l (s.assign d type r y) h = simple x (assignment_turns e d type r y h)
    form_even l (s.assign_images v k images which) h = simple x (images_turns e v images which h)
    form_even l (s.call n es) h = simple x (subroutine_called e n (procedure_in e n) es h.0 h.1)
    form_even l (s.call_intrinsic i w) h = simple x (subroutine_turns e i (written_dummies w) h)
    form_even l (s.print f items) h = simple x (output_turns e f items h)
    form_even l (s.exit n) h = tt
    form_even l (s.cycle n) h = tt
    form_even l s.return h = tt
    form_even l (s.stop code) h = level x (stopped e code a.stop refl h (pushed (pos 0)))
    form_even l (s.error_stop code) h = level x (stopped e code a.error_stop refl h (pushed (pos 0)))
    form_even l s.fail_image h = level x (one_act {b = a.ask a.fail})
    form_even l (s.allocate xs stat) h = simple x (allocate_turns e xs stat h.0 h.1)
    form_even l (s.deallocate xs stat) h = simple x (deallocate_turns e xs stat h)
    form_even l (s.sync_all stat) h = simple x (sync_all_turns e stat h)
    form_even l (s.sync_memory stat) h = simple x (sync_memory_turns e stat h)
    form_even l (s.sync_images is stat) h = simple x (sync_images_turns e is stat h.0 h.1)
    form_even l (s.sync_team y stat) h = simple x (sync_team_turns e y stat h.0 h.1)
    form_even l (s.form_team y v index stat order) h = simple x (form_team_turns e y v index stat order h.0 h.1 h.2)
    form_even l (s.lock d acquired stat order) h = simple x (lock_turns e d acquired stat order h.0 h.1 h.2)
    form_even l (s.unlock d stat) h = simple x (unlock_turns e d stat h.0 h.1)
    form_even l (s.event_post d stat) h = simple x (post_turns e d stat h.0 h.1)
    form_even l (s.event_wait d until stat order) h = simple x (wait_turns e d until stat order h.0 h.1 h.2)
    form_even l (s.if c body others none') h = (level x idle, (condition e x c h.0, steps_even body h.1, else_ifs_even others (steps e none') h.2 (steps_even none' h.3)))
    form_even l (s.do_counted v k first last step n body) h =
        (simple x (do_turns e v k first last step (hidden_cell e n) h.0 h.1 h.2), level x (one_act {b = a.variable (a.next_iteration (scope_of v.home) v.variable (hidden_cell e n) k)}), test x (one_act {b = a.variable (a.more_iterations (hidden_cell e n))}), steps_even body h.3)
    form_even l (s.do_while c body) h = (level x idle, level x idle, condition e x c h.0, steps_even body h.1)
    form_even l (s.do_forever body) h = (level x idle, level x idle, test x (pushed (pos 1)), steps_even body h)
    form_even l (s.select c n cs none') h = (level x (select_turns e c (hidden_cell e n) h.0), cases_even (hidden_cell e n) cs (steps e none') h.1 (steps_even none' h.2))
    form_even l (s.critical n stat body m) h = (simple x (critical_turns e n stat h.0), steps_even body h.1, level x (end_critical_turns e n))
    form_even l (s.change_team y stat body end_stat m) h = (simple x (change_team_turns e y stat h.0 h.1), steps_even body h.2, simple x (end_team_turns e end_stat h.3))

    pub steps_even : (ss : s.Statements) → ranks.AreStatements e.program.procedures ss → IsEven (tested_of x) (taken_of x) (left_of x) (steps e ss)
    steps_even s.no_statements h = tt
    steps_even (s.more_statements (s.on_line f l) ss) h = (form_even l f h.0, steps_even ss h.1)

    else_ifs_even : (others : s.ElseIfs) (rest : Steps Act) → ranks.AreElseIfs e.program.procedures others → IsEven (tested_of x) (taken_of x) (left_of x) rest
        → AreEven (tested_of x) (taken_of x) (left_of x) (else_ifs e others rest)
    else_ifs_even s.no_else_ifs rest h r = r
    else_ifs_even (s.more_else_ifs c body l others) rest h r = (condition e x c h.0, steps_even body h.1, else_ifs_even others rest h.2 r)

    cases_even : (y : ℕ) (cs : s.Cases) (rest : Steps Act) → ranks.AreCases e.program.procedures cs → IsEven (tested_of x) (taken_of x) (left_of x) rest
        → AreEven (tested_of x) (taken_of x) (left_of x) (cases e y cs rest)
    cases_even y s.no_cases rest h r = r
    cases_even y (s.more_cases rs body l others) rest h r = (test x (any_range y rs), steps_even body h.0, cases_even y others rest h.1 r)

procedures_even : (p : s.Program) (x : Part) (qs : List s.Procedure) → ranks.AreProcedures p.procedures qs → AllEven (tested_of x) (taken_of x) (left_of x) (procedure_bodies p qs)
procedures_even p x [] h = tt
procedures_even p x (q ∷ qs) h = (steps_even (environment_of p host q.unit) x q.unit.statements h.0, procedures_even p x qs h.1)

pub bodies_even : (p : s.Program) → IsRankedProgram p → (x : Part) → AllEven (tested_of x) (taken_of x) (left_of x) (bodies p)
bodies_even p h x = (steps_even (environment_of p here p.main) x p.main.statements h.0, procedures_even p x p.procedures h.1)
