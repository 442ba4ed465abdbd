-- The blocks of a program fit.
use Rattle.std.proofs.Common.{ℕ, zero, suc, ◌⊎◌, inl, inr, List, [], ◌∷◌, Bool}
use Rattle.std.specs.Prelude.{pos}
use Rattle.walk_theory.specs.Syntax.{Parts, Steps, body_of}
use Rattle.code_heights.specs.MadeHeights.{Leaves, IsEvenForm, AreEven}
use Rattle.checked_tree.specs.declared.data.DataType.{DataType}
use Rattle.checked_tree.specs.declared.data.Object.TheVariants as objects
use Rattle.checked_tree.specs.declared.action.WrittenArguments.{WrittenArguments}
use Rattle.checked_tree.specs.declared.expr.WrittenOrder.{WrittenOrder}
use Rattle.checked_tree.specs.Expressions as t
use Rattle.checked_tree.specs.Statements as s
use Rattle.object_rules.specs.Cells.{Declared}
use Rattle.object_rules.specs.MemoryRules.{is_lock, is_event}
use Rattle.core_runs.specs.Beginnings.{IsOneOf}
use Rattle.image_acts.specs.Acts as a
use Rattle.image_acts.specs.Acts.{Act, here, host}
use Rattle.image_code.specs.Levels.{of_numbers, tested_of, taken_of, left_of}
use Rattle.tree_meaning.specs.Environment.{Environment, scope_of, kind_of, procedure_in, hidden_cell}
use Rattle.tree_meaning.specs.Sequences.{released}
use Rattle.tree_meaning.specs.Expressions as view
use Rattle.tree_meaning.specs.Assignments as assignments
use Rattle.tree_meaning.specs.ImageControl as control
use Rattle.tree_meaning.specs.Allocation as alloc
use Rattle.tree_meaning.specs.Subroutines as sub
use Rattle.tree_meaning.specs.Pieces.{written_dummies}
use Rattle.tree_meaning.specs.Forms.{called, do_start, form, steps, else_ifs, cases, environment_of, procedure_bodies, bodies}
use Rattle.made_code.specs.Ranks as ranks
use Rattle.made_code.proofs.Blocks.{steps_even}
use Rattle.cell_walks.specs.Fitting.{Leave, FormFits, BranchesFit, StepsFit}
use Rattle.cell_walks.proofs.Quieting.{Safe, no_parts, one, both}
use Rattle.cell_statements.specs.Typed.{IsCellOf, IsTyped, IsTypedCall, AreTyped, AreTypedElseIfs, AreTypedCases, AreTypedProcedures, IsTypedProgram}
use Rattle.cell_statements.specs.Reading.{PlaceReads, OptionalReads, StatReads, SubroutineReads, StatementReads, StatementsRead, ElseIfsRead, CasesRead, ProceduresRead, ProgramReads}
use Rattle.cell_statements.proofs.Quiet.{quiet_expression, quiet_place, quiet_calling, quiet_arguments}
use Rattle.cell_statements.proofs.QuietStatements.{free_again, settled, quiet_assigned, quiet_listed_team, quiet_listing, quiet_beginning, quiet_items, sync_all_quiet, sync_images_quiet, sync_team_quiet, form_team_quiet, quiet_critical, change_team_quiet, end_team_quiet, allocate_quiet, deallocate_quiet, condition, start_quiet, quiet_ranges, stop_quiet, IsOwnCollected, IsOwnCollective, collective_quiet}
use Rattle.cell_statements.proofs.Cells.{leaves, freed}
use Rattle.cell_statements.proofs.Locks.{lock_fits, unlock_fits, post_fits, wait_fits}
use Rattle.cell_statements.proofs.Queries.{query_fits}
use Rattle.cell_statements.proofs.Atomics.{IsAtomicCall, atomic_fits}
use Rattle.cell_statements.proofs.Collectives.{IsCoarrayPart, IsShared, shared_fits}

module _ (n me : ℕ) (coarrays : List Declared) (readable : ℕ → Bool) (there : IsOneOf n me) (e : Environment) where
  abbrev Even : ℕ → Parts Act → Type 0
  Even m p = Leaves (tested_of of_numbers) (taken_of of_numbers) (left_of of_numbers) m p

  abbrev Fits : ℕ → Parts Act → Type 0
  Fits m p = Leave n me coarrays readable m p

  even : (l : ℕ) (f : s.StatementForm) → ranks.IsStatement e.program.procedures f → IsEvenForm (tested_of of_numbers) (taken_of of_numbers) (left_of of_numbers) (form e l f)
  even l f h = (steps_even e of_numbers (s.more_statements (s.on_line f l) s.no_statements) (h, tt)).0

  fit : {p : Parts Act} (m : ℕ) → Even m p → Safe readable p → Fits m p
  fit m l q = leaves n me coarrays readable m q l

  -- ---- statements on one cell
  locks : (d : t.Designator) (acquired stat : t.OptionalResult) (order : WrittenOrder) → IsCellOf coarrays is_lock d → ranks.IsCell e.program.procedures d → ranks.IsOptionalResult e.program.procedures acquired
      → ranks.IsOptionalResult e.program.procedures stat → PlaceReads readable d → StatReads readable acquired → StatReads readable stat → Fits 0 (control.lock e d acquired stat order)
  locks (t.part (objects.Coarray k) ss sel) acquired stat order y h f g p q r = lock_fits n me coarrays readable there e k ss sel acquired stat order y h f g p q r
  locks (t.part (objects.Local v) ss sel) acquired stat order y h f g p q r = absurd h
  locks (t.part (objects.Constant k) ss sel) acquired stat order y h f g p q r = absurd h

  unlocks : (d : t.Designator) (stat : t.OptionalResult) → IsCellOf coarrays is_lock d → ranks.IsCell e.program.procedures d → ranks.IsOptionalResult e.program.procedures stat → PlaceReads readable d → StatReads readable stat → Fits 0 (control.unlock e d stat)
  unlocks (t.part (objects.Coarray k) ss sel) stat y h g p r = unlock_fits n me coarrays readable there e k ss sel stat y h g p r
  unlocks (t.part (objects.Local v) ss sel) stat y h g p r = absurd h
  unlocks (t.part (objects.Constant k) ss sel) stat y h g p r = absurd h

  posts : (d : t.Designator) (stat : t.OptionalResult) → IsCellOf coarrays is_event d → ranks.IsCell e.program.procedures d → ranks.IsOptionalResult e.program.procedures stat → PlaceReads readable d → StatReads readable stat → Fits 0 (control.event_post e d stat)
  posts (t.part (objects.Coarray k) ss sel) stat y h g p r = post_fits n me coarrays readable there e k ss sel stat y h g p r
  posts (t.part (objects.Local v) ss sel) stat y h g p r = absurd h
  posts (t.part (objects.Constant k) ss sel) stat y h g p r = absurd h

  waits : (d : t.Designator) (until : t.OptionalExpression) (stat : t.OptionalResult) (order : WrittenOrder) → IsCellOf coarrays is_event d → ranks.IsOwnCell e.program.procedures d
      → ranks.IsOptionalScalar e.program.procedures until → ranks.IsOptionalResult e.program.procedures stat → PlaceReads readable d → OptionalReads readable until → StatReads readable stat
      → Fits 0 (control.event_wait e d until stat order)
  waits (t.part (objects.Coarray k) ss t.no_selector) until stat order y h f g p q r = wait_fits n me coarrays readable there e k ss until stat order y h f g p q r
  waits (t.part (objects.Coarray k) ss (t.selector cs which st)) until stat order y h f g p q r = absurd h
  waits (t.part (objects.Local v) ss sel) until stat order y h f g p q r = absurd h
  waits (t.part (objects.Constant k) ss sel) until stat order y h f g p q r = absurd h

  quiet_call : (i : s.IntrinsicSubroutine) (w : WrittenArguments) → IsOwnCollective readable e i → Even 0 (released (sub.intrinsic_call e i w)) → ranks.IsSubroutine e.program.procedures i (written_dummies w) → SubroutineReads readable i
      → Fits 0 (released (sub.intrinsic_call e i w))
  quiet_call i w f l h r = fit 0 l (free_again (sub.intrinsic_call e i w) (collective_quiet readable e i (written_dummies w) f h r))

  shared_call : (i : s.IntrinsicSubroutine) (w : WrittenArguments) → IsShared n me coarrays readable there e i → ranks.IsSubroutine e.program.procedures i (written_dummies w) → SubroutineReads readable i → Fits 0 (released (sub.intrinsic_call e i w))
  shared_call i w f h r = freed n me coarrays readable (sub.intrinsic_call e i w) (shared_fits n me coarrays readable there e i (written_dummies w) f h r)

  own_or_shared : (d : t.Designator) → IsOwnCollected readable e d ⊎ IsCoarrayPart d
  own_or_shared (t.part (objects.Local v) ss sel) = inl tt
  own_or_shared (t.part (objects.Coarray c) ss sel) = inr tt
  own_or_shared (t.part (objects.Constant k) ss sel) = inl tt

  atomic_call : (i : s.IntrinsicSubroutine) (w : WrittenArguments) → IsAtomicCall n me coarrays readable there e i → ranks.IsSubroutine e.program.procedures i (written_dummies w) → IsTypedCall coarrays i → SubroutineReads readable i → Fits 0 (released (sub.intrinsic_call e i w))
  atomic_call i w f h y r = freed n me coarrays readable (sub.intrinsic_call e i w) (atomic_fits n me coarrays readable there e i (written_dummies w) f h y r)

  subroutines : (i : s.IntrinsicSubroutine) (w : WrittenArguments) → Even 0 (released (sub.intrinsic_call e i w)) → ranks.IsSubroutine e.program.procedures i (written_dummies w) → IsTypedCall coarrays i → SubroutineReads readable i
      → Fits 0 (released (sub.intrinsic_call e i w))
  subroutines (s.event_query d count stat) w l h y r = freed n me coarrays readable (sub.intrinsic_call e (s.event_query d count stat) w) (query_fits n me coarrays readable there e d count stat (written_dummies w) h y r)
  subroutines (s.atomic_define d k x stat) w l h y r = atomic_call (s.atomic_define d k x stat) w tt h y r
  subroutines (s.atomic_ref x d k stat) w l h y r = atomic_call (s.atomic_ref x d k stat) w tt h y r
  subroutines (s.atomic_change c d x stat) w l h y r = atomic_call (s.atomic_change c d x stat) w tt h y r
  subroutines (s.atomic_fetch c d x old stat) w l h y r = atomic_call (s.atomic_fetch c d x old stat) w tt h y r
  subroutines (s.atomic_cas d k old x z stat) w l h y r = atomic_call (s.atomic_cas d k old x z stat) w tt h y r
  subroutines (s.combine c x root stat) w l h y r = elim (own_or_shared x.variable) [
    | inl f ↦ quiet_call (s.combine c x root stat) w f l h r
    | inr f ↦ shared_call (s.combine c x root stat) w f h r
  ]
  subroutines (s.broadcast x root stat) w l h y r = elim (own_or_shared x.variable) [
    | inl f ↦ quiet_call (s.broadcast x root stat) w f l h r
    | inr f ↦ shared_call (s.broadcast x root stat) w f h r
  ]

  -- the value of an assignment is ranked, whatever its variable is
  value_ranked : (d : t.Designator) (rank : ℕ) (x : t.Expression) → ranks.IsAssigned e.program.procedures d rank x → ranks.IsRanked e.program.procedures x
  value_ranked (t.part (objects.Local v) ss sel) rank (t.typed f type q) h = h.0
  value_ranked (t.part (objects.Coarray c) ss sel) rank (t.typed f type q) h = h.0
  value_ranked (t.part (objects.Constant k) ss sel) rank x h = absurd h

  assigns : (l : ℕ) (d : t.Designator) (type : DataType) (rank : ℕ) (x : t.Expression) → ranks.IsStatement e.program.procedures (s.assign d type rank x) → StatementReads readable (s.assign d type rank x)
      → Fits 0 (released (assignments.assignment e d type rank x))
  assigns l d type rank x h r =
      fit 0 (even l (s.assign d type rank x) h)
      (free_again (assignments.assignment e d type rank x)
      (both (quiet_expression readable e x (value_ranked d rank x h) r.1) (quiet_assigned readable e d (kind_of type) rank (assignments.kind_in x) (assignments.rank_in x) x h r.0)))

  mutual
    form_fits : (l : ℕ) (f : s.StatementForm) → ranks.IsStatement e.program.procedures f → IsTyped coarrays f → StatementReads readable f → FormFits n me coarrays readable (form e l f)
    form_fits l (s.assign d type rank x) h y r = assigns l d type rank x h r
    form_fits l (s.assign_images v k images which) h y r =
        fit 0 (even l (s.assign_images v k images which) h) (free_again (assignments.images_assignment e v images which) (both (quiet_listed_team readable e which h r) (both (quiet_listing readable e images) (one tt))))
    form_fits l (s.call m es) h y r =
        fit 0 (even l (s.call m es) h) (free_again (called e m (procedure_in e m) es)
        (both (quiet_arguments readable e (procedure_in e m).unit.variables (procedure_in e m).dummies es h.1 r) (quiet_calling m (procedure_in e m) (view.passed (procedure_in e m).unit.variables (procedure_in e m).dummies es))))
    form_fits l (s.call_intrinsic i w) h y r = subroutines i w (even l (s.call_intrinsic i w) h) h y r
    form_fits l (s.print f items) h y r =
        fit 0 (even l (s.print f items) h) (free_again (assignments.output e f items) (both (quiet_beginning readable e f) (both (quiet_items readable e items h r) (one tt))))
    form_fits l (s.exit m) h y r = tt
    form_fits l (s.cycle m) h y r = tt
    form_fits l s.return h y r = tt
    form_fits l (s.stop code) h y r = fit 0 (even l (s.stop code) h) (stop_quiet readable e code a.stop tt h r)
    form_fits l (s.error_stop code) h y r = fit 0 (even l (s.error_stop code) h) (stop_quiet readable e code a.error_stop tt h r)
    form_fits l s.fail_image h y r = fit 0 (even l s.fail_image h) (one {x = a.ask a.fail} tt)
    form_fits l (s.allocate xs stat) h y r = fit 0 (even l (s.allocate xs stat) h) (free_again (alloc.allocate e xs stat) (allocate_quiet readable e xs stat h.0 h.1 r.0 r.1))
    form_fits l (s.deallocate xs stat) h y r = fit 0 (even l (s.deallocate xs stat) h) (free_again (alloc.deallocate e xs stat) (deallocate_quiet readable e xs stat h r))
    form_fits l (s.sync_all stat) h y r = fit 0 (even l (s.sync_all stat) h) (free_again (control.sync_all e stat) (sync_all_quiet readable e stat h r))
    form_fits l (s.sync_memory stat) h y r =
        fit 0 (even l (s.sync_memory stat) h) (free_again (control.sync_memory e stat) (both (quiet_place readable e stat h r) (both (one tt) (both (one tt) (settled stat 1 [] (view.optional_size stat))))))
    form_fits l (s.sync_images is stat) h y r = fit 0 (even l (s.sync_images is stat) h) (free_again (control.sync_images e is stat) (sync_images_quiet readable e is stat h.0 h.1 r.0 r.1))
    form_fits l (s.sync_team x stat) h y r = fit 0 (even l (s.sync_team x stat) h) (free_again (control.sync_team e x stat) (sync_team_quiet readable e x stat h.0 h.1 r.0 r.1))
    form_fits l (s.form_team x v index stat order) h y r =
        fit 0 (even l (s.form_team x v index stat order) h) (free_again (control.form_team e x v index stat order) (form_team_quiet readable e x v index stat order h.0 h.1 h.2 r.0 r.1 r.2))
    form_fits l (s.lock d acquired stat order) h y r = freed n me coarrays readable (control.lock e d acquired stat order) (locks d acquired stat order y h.0 h.1 h.2 r.0 r.1 r.2)
    form_fits l (s.unlock d stat) h y r = freed n me coarrays readable (control.unlock e d stat) (unlocks d stat y h.0 h.1 r.0 r.1)
    form_fits l (s.event_post d stat) h y r = freed n me coarrays readable (control.event_post e d stat) (posts d stat y h.0 h.1 r.0 r.1)
    form_fits l (s.event_wait d until stat order) h y r = freed n me coarrays readable (control.event_wait e d until stat order) (waits d until stat order y h.0 h.1 h.2 r.0 r.1 r.2)
    form_fits l (s.if x body others none') h y r =
        let v = even l (s.if x body others none') h in (
          fit 0 v.0 no_parts,
          (
            fit 1 v.1.0 (condition readable e x h.0 r.0),
            steps_fit body h.1 y.0 r.1,
            else_ifs_fit others (steps e none') h.2 y.1 r.2 v.1.2 (steps_fit none' h.3 y.2 r.3),
          ),
        )
    form_fits l (s.do_counted v k first last step m body) h y r =
        let w = even l (s.do_counted v k first last step m body) h in
        let x = hidden_cell e m in (
          fit 0 w.0 (free_again (do_start e v k first last step x) (start_quiet readable e v k first last step x h.0 h.1 h.2 r.0 r.1 r.2)),
          fit 0 w.1 (one {x = a.variable (a.next_iteration (scope_of v.home) v.variable x k)} tt),
          fit 1 w.2 (one {x = a.variable (a.more_iterations x)} tt),
          steps_fit body h.3 y r.3,
        )
    form_fits l (s.do_while x body) h y r =
        (let w = even l (s.do_while x body) h in (fit 0 w.0 no_parts, fit 0 w.1 no_parts, fit 1 w.2 (condition readable e x h.0 r.0), steps_fit body h.1 y r.1))
    form_fits l (s.do_forever body) h y r = (let w = even l (s.do_forever body) h in (fit 0 w.0 no_parts, fit 0 w.1 no_parts, fit 1 w.2 (one {x = a.constant (pos 1)} tt), steps_fit body h y r))
    form_fits l (s.select x m cs none') h y r =
        let w = even l (s.select x m cs none') h in
        (fit 0 w.0 (both (condition readable e x h.0 r.0) (one {x = a.variable (a.store here (hidden_cell e m))} tt)), cases_fit (hidden_cell e m) cs (steps e none') h.1 y.0 r.1 w.1 (steps_fit none' h.2 y.1 r.2))
    form_fits l (s.critical m stat body k) h y r =
        (let w = even l (s.critical m stat body k) h in (fit 0 w.0 (free_again (control.critical e m stat) (quiet_critical readable e m stat h.0 r.0)), steps_fit body h.1 y r.1, fit 0 w.2 (one {x = a.ask (a.exit_critical m)} tt)))
    form_fits l (s.change_team x stat body end_stat k) h y r =
        let w = even l (s.change_team x stat body end_stat k) h in (
          fit 0 w.0 (free_again (control.change_team e x stat) (change_team_quiet readable e x stat h.0 h.1 r.0 r.1)),
          steps_fit body h.2 y r.2,
          fit 0 w.2 (free_again (control.end_team e end_stat) (end_team_quiet readable e end_stat h.3 r.3)),
        )

    pub steps_fit : (ss : s.Statements) → ranks.AreStatements e.program.procedures ss → AreTyped coarrays ss → StatementsRead readable ss → StepsFit n me coarrays readable (steps e ss)
    steps_fit s.no_statements h y r = tt
    steps_fit (s.more_statements (s.on_line f l) ss) h y r = (form_fits l f h.0 y.0 r.0, steps_fit ss h.1 y.1 r.1)

    else_ifs_fit : (os : s.ElseIfs) (rest : Steps Act) → ranks.AreElseIfs e.program.procedures os → AreTypedElseIfs coarrays os → ElseIfsRead readable os
        → AreEven (tested_of of_numbers) (taken_of of_numbers) (left_of of_numbers) (else_ifs e os rest) → StepsFit n me coarrays readable rest → BranchesFit n me coarrays readable (else_ifs e os rest)
    else_ifs_fit s.no_else_ifs rest h y r v q = q
    else_ifs_fit (s.more_else_ifs x body l others) rest h y r v q = (fit 1 v.0 (condition readable e x h.0 r.0), steps_fit body h.1 y.0 r.1, else_ifs_fit others rest h.2 y.1 r.2 v.2 q)

    cases_fit : (x : ℕ) (cs : s.Cases) (rest : Steps Act) → ranks.AreCases e.program.procedures cs → AreTypedCases coarrays cs → CasesRead readable cs
        → AreEven (tested_of of_numbers) (taken_of of_numbers) (left_of of_numbers) (cases e x cs rest) → StepsFit n me coarrays readable rest → BranchesFit n me coarrays readable (cases e x cs rest)
    cases_fit x s.no_cases rest h y r v q = q
    cases_fit x (s.more_cases rs body l others) rest h y r v q = (fit 1 v.0 (quiet_ranges readable e x rs), steps_fit body h.0 y.0 r.0, cases_fit x others rest h.1 y.1 r.1 v.2 q)

-- ---- the bodies of a program
module _ (n me : ℕ) (coarrays : List Declared) (readable : ℕ → Bool) (there : IsOneOf n me) (p : s.Program) where
  procedure_fits : (qs : List s.Procedure) → ranks.AreProcedures p.procedures qs → AreTypedProcedures coarrays qs → ProceduresRead readable qs → (k : ℕ) → StepsFit n me coarrays readable (body_of (procedure_bodies p qs) k)
  procedure_fits [] h y r k = tt
  procedure_fits (q ∷ qs) h y r zero = steps_fit n me coarrays readable there (environment_of p host q.unit) q.unit.statements h.0 y.0 r.0
  procedure_fits (q ∷ qs) h y r (suc k) = procedure_fits qs h.1 y.1 r.1 k

  pub bodies_fit : ranks.IsRankedProgram p → IsTypedProgram coarrays p → ProgramReads readable p → (k : ℕ) → StepsFit n me coarrays readable (body_of (bodies p) k)
  bodies_fit h y r zero = steps_fit n me coarrays readable there (environment_of p here p.main) p.main.statements h.0 y.0 r.0
  bodies_fit h y r (suc k) = procedure_fits p.procedures h.1 y.1 r.1 k
