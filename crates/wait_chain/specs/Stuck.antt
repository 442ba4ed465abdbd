-- What a run leaves in which no image goes on: a trace, and the images that are left, each with an ask that isn't
-- ready.
use Rattle.std.specs.Prelude.{ℕ, ◌≡◌, ◌<◌, true, false, not, List, length, map, filter}
use Rattle.caf_events.specs.declared.ask.Ask.{Ask}
use Rattle.caf_events.specs.declared.event.Entry.{Entry}
use Rattle.object_rules.specs.Cells.{Declared}
use Rattle.object_rules.specs.Happenings.{control, happened, has_ended}
use Rattle.trace_theory.specs.Entries.{Each}
use Rattle.core_runs.specs.Beginnings.{numbers_to}
use Rattle.core_runs.specs.CoreRuns.{at_board}
use Rattle.core_runs.specs.Lawful.{IsLawfulTrace}
use Rattle.wait_reason.specs.WaitsFor.{is_fit_after, is_ready_after}
use Rattle.wait_reason.specs.Chains.{Wait}

-- the images of a run of n that have neither stopped nor failed after the trace, in rising order
abbrev pub left_after : ℕ → List Entry → List ℕ
left_after n t = filter (λ i. not (has_ended i (happened control (at_board t)))) (numbers_to n)

-- the ask of the image fits after the trace and isn't ready
abbrev pub IsHeld : List Declared → ℕ → List Entry → ℕ → Ask → Type 0
IsHeld coarrays n t i ask = (is_fit_after coarrays n t i ask ≡ true) × (is_ready_after coarrays n t i ask ≡ false)

-- The trace is a lawful one of n images. The list has one ask for each image that has neither stopped nor failed, and
-- for no other, in rising order; it has at least one; and each ask fits and isn't ready.
pub record IsStuck (n : ℕ) (t : List Entry) (waits : List Wait) : Type 0 where
  pub coarrays : List Declared
  pub lawful : IsLawfulTrace coarrays n t
  pub images : map (λ (w : Wait). w.image) waits ≡ left_after n t
  pub some : 0 < length waits
  pub held : Each (λ (w : Wait). IsHeld coarrays n t w.image w.ask) waits
