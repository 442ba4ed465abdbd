-- The machine does each act of statements and constructs that have their ranks and kinds.
use Rattle.std.proofs.Common.{ℕ, pos, List, [], ◌∷◌, ◌++◌}
use Rattle.walk_theory.specs.Syntax.{Steps}
use Rattle.caf_base.specs.declared.value.Kind.{Kind}
use Rattle.checked_tree.specs.declared.data.Local.{Local}
use Rattle.checked_tree.specs.declared.statement.CaseRange.{CaseRange}
use Rattle.checked_tree.specs.declared.statement.CaseRange.TheVariants as ranges
use Rattle.checked_tree.specs.Expressions as t
use Rattle.checked_tree.specs.Statements as s
use Rattle.checked_tree.specs.Statements.{Procedure}
use Rattle.image_acts.specs.Acts.{Act, here, host}
use Rattle.tree_meaning.specs.Environment.{Environment, procedure_in, hidden_cell}
use Rattle.tree_meaning.specs.Assignments.{assignment, images_assignment, output}
use Rattle.tree_meaning.specs.Allocation.{allocate, deallocate}
use Rattle.tree_meaning.specs.ImageControl as control
use Rattle.tree_meaning.specs.Subroutines.{intrinsic_call}
use Rattle.tree_meaning.specs.Sequences as sequences
use Rattle.tree_meaning.specs.Forms as view
use Rattle.accepted_ranks.specs.Kinded as kinded
use Rattle.tree_meaning.specs.Expressions.{expression, passed}
use Rattle.accepted_runs.proofs.Acts.{PartsDo, StepsDo, FormDoes, BranchesDo, released_does}
use Rattle.accepted_runs.proofs.Evaluations.{calling_does, passed_back, scalar_does, arguments_do}
use Rattle.accepted_runs.proofs.Control.{number_does, assignment_does, images_assigned_do, output_does, allocate_does, deallocate_does, sync_all_does, sync_memory_does, sync_images_does, sync_team_does, form_team_does, lock_does, unlock_does, post_does, wait_does, critical_does, change_team_does, end_team_does}
use Rattle.accepted_runs.proofs.Subroutines.{call_does}

-- ---- case ranges
acts_do : (xs ys : List Act) → PartsDo (sequences.doing xs) → PartsDo (sequences.doing ys) → PartsDo (sequences.doing (xs ++ ys))
acts_do [] ys h k = k
acts_do (x ∷ xs) ys h k = (h.0, acts_do xs ys h.1 k)

range_does : (x : ℕ) (r : CaseRange) → PartsDo (sequences.doing (view.in_range x r))
range_does x (ranges.Value v) = (tt, (tt, (tt, tt)))
range_does x (ranges.AtLeast v) = (tt, (tt, (tt, tt)))
range_does x (ranges.AtMost v) = (tt, (tt, (tt, tt)))
range_does x (ranges.Between v w) = (tt, (tt, (tt, (tt, (tt, (tt, (tt, tt)))))))

more_ranges_do : (x : ℕ) (rs : List CaseRange) → PartsDo (sequences.doing (view.in_more_ranges x rs))
more_ranges_do x [] = tt
more_ranges_do x (r ∷ rs) = acts_do (view.in_range x r) _ (range_does x r) (tt, more_ranges_do x rs)

ranges_do : (x : ℕ) (rs : List CaseRange) → PartsDo (sequences.doing (view.in_ranges x rs))
ranges_do x [] = (tt, tt)
ranges_do x (r ∷ rs) = acts_do (view.in_range x r) (view.in_more_ranges x rs) (range_does x r) (more_ranges_do x rs)

module _ (e : Environment) where
  abbrev procedures : List Procedure
  procedures = e.program.procedures

  called_does : (n : ℕ) (p : Procedure) (es : t.Arguments) → kinded.ArePassed procedures p.unit.variables p.dummies es → PartsDo (view.called e n p es)
  called_does n p es h = (arguments_do e p.unit.variables p.dummies es h, calling_does n p (passed p.unit.variables p.dummies es) (passed_back e p.unit.variables p.dummies es h))

  start_does : (v : Local) (k : Kind) (first last : t.Expression) (step : t.OptionalExpression) (x : ℕ) → kinded.IsOfRank procedures first 0 → kinded.IsOfRank procedures last 0 → kinded.IsOptionalScalar procedures step
      → PartsDo (view.do_start e v k first last step x)
  start_does v k first last step x h i j = ((scalar_does e first 0 h, (tt, tt)), ((scalar_does e last 0 i, (tt, tt)), ((number_does e step (sequences.pushing (pos 1)) j (tt, tt), (tt, tt)), (tt, tt))))

  condition_does : (x : t.Expression) → kinded.IsOfRank procedures x 0 → PartsDo (sequences.released (expression e x))
  condition_does x h = released_does (expression e x) (scalar_does e x 0 h)

  mutual
    form_does : (l : ℕ) (f : s.StatementForm) → kinded.IsStatement procedures f → FormDoes (view.form e l f)
    form_does l (s.assign d type r x) h = released_does (assignment e d type r x) (assignment_does e d type r x h)
    form_does l (s.assign_images v k images which) h = released_does (images_assignment e v images which) (images_assigned_do e v images which h)
    form_does l (s.call n es) h = released_does (view.called e n (procedure_in e n) es) (called_does n (procedure_in e n) es h.1)
    form_does l (s.call_intrinsic i w) h = released_does (intrinsic_call e i w) (call_does e i w h)
    form_does l (s.print f items) h = released_does (output e f items) (output_does e f items h)
    form_does l (s.exit n) h = tt
    form_does l (s.cycle n) h = tt
    form_does l s.return h = tt
    form_does l (s.stop code) h = (number_does e code (sequences.pushing (pos 0)) h (tt, tt), (tt, tt))
    form_does l (s.error_stop code) h = (number_does e code (sequences.pushing (pos 0)) h (tt, tt), (tt, tt))
    form_does l s.fail_image h = (tt, tt)
    form_does l (s.allocate xs stat) h = released_does (allocate e xs stat) (allocate_does e xs stat h.0 h.1)
    form_does l (s.deallocate xs stat) h = released_does (deallocate e xs stat) (deallocate_does e xs stat h)
    form_does l (s.sync_all stat) h = released_does (control.sync_all e stat) (sync_all_does e stat h)
    form_does l (s.sync_memory stat) h = released_does (control.sync_memory e stat) (sync_memory_does e stat h)
    form_does l (s.sync_images is stat) h = released_does (control.sync_images e is stat) (sync_images_does e stat h.1 is h.0)
    form_does l (s.sync_team x stat) h = released_does (control.sync_team e x stat) (sync_team_does e stat h.1 x h.0)
    form_does l (s.form_team x v index stat order) h = released_does (control.form_team e x v index stat order) (form_team_does e stat h.2 x v index order h.0 h.1)
    form_does l (s.lock d acquired stat order) h = released_does (control.lock e d acquired stat order) (lock_does e d acquired stat order h.0 h.1 h.2)
    form_does l (s.unlock d stat) h = released_does (control.unlock e d stat) (unlock_does e d stat h.0 h.1)
    form_does l (s.event_post d stat) h = released_does (control.event_post e d stat) (post_does e d stat h.0 h.1)
    form_does l (s.event_wait d until stat order) h = released_does (control.event_wait e d until stat order) (wait_does e d until stat order h.0 h.1 h.2)
    form_does l (s.if x body others none) h = (tt, (condition_does x h.0, steps_do body h.1, else_ifs_do others (view.steps e none) h.2 (steps_do none h.3)))
    form_does l (s.do_counted v k first last step n body) h = (released_does (view.do_start e v k first last step (hidden_cell e n)) (start_does v k first last step (hidden_cell e n) h.1 h.2 h.3), (h.0, tt), (tt, tt), steps_do body h.4)
    form_does l (s.do_while x body) h = (tt, tt, condition_does x h.0, steps_do body h.1)
    form_does l (s.do_forever body) h = (tt, tt, (tt, tt), steps_do body h)
    form_does l (s.select x n cs none) h = ((condition_does x h.0, (tt, tt)), cases_do (hidden_cell e n) cs (view.steps e none) h.1 (steps_do none h.2))
    form_does l (s.critical n stat body m) h = (released_does (control.critical e n stat) (critical_does e n stat h.0), steps_do body h.1, (tt, tt))
    form_does l (s.change_team x stat body end_stat m) h = (released_does (control.change_team e x stat) (change_team_does e x stat h.0 h.1), steps_do body h.2, released_does (control.end_team e end_stat) (end_team_does e end_stat h.3))

    pub steps_do : (ss : s.Statements) → kinded.AreStatements procedures ss → StepsDo (view.steps e ss)
    steps_do s.no_statements h = tt
    steps_do (s.more_statements (s.on_line f l) ss) h = (form_does l f h.0, steps_do ss h.1)

    else_ifs_do : (xs : s.ElseIfs) (none : Steps Act) → kinded.AreElseIfs procedures xs → StepsDo none → BranchesDo (view.else_ifs e xs none)
    else_ifs_do s.no_else_ifs none h k = k
    else_ifs_do (s.more_else_ifs x body l others) none h k = (condition_does x h.0, steps_do body h.1, else_ifs_do others none h.2 k)

    cases_do : (x : ℕ) (cs : s.Cases) (none : Steps Act) → kinded.AreCases procedures cs → StepsDo none → BranchesDo (view.cases e x cs none)
    cases_do x s.no_cases none h k = k
    cases_do x (s.more_cases rs body l others) none h k = (ranges_do x rs, steps_do body h.0, cases_do x others none h.1 k)

-- ---- programs
abbrev pub BodiesDo : List (Steps Act) → Type 0
BodiesDo [] = Unit {0}
BodiesDo (b ∷ bs) = StepsDo b × BodiesDo bs

procedures_do : (p : s.Program) (qs : List Procedure) → kinded.AreProcedures p.procedures qs → BodiesDo (view.procedure_bodies p qs)
procedures_do p [] h = tt
procedures_do p (q ∷ qs) h = (steps_do (view.environment_of p host q.unit) q.unit.statements h.0, procedures_do p qs h.1)

pub bodies_do : (p : s.Program) → kinded.IsKindedProgram p → BodiesDo (view.bodies p)
bodies_do p h = (steps_do (view.environment_of p here p.main) p.main.statements h.0, procedures_do p p.procedures h.1)
