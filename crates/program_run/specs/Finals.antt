-- The final values of a run of a checked program: what variables of its main program hold where each image stands after
-- the trace.
use Rattle.std.specs.Prelude.{ℕ, zero, suc, ◌≡◌, ◌⊎◌, Bool, true, false, List, [], ◌++◌}
use Rattle.std.specs.List.{list_any}
use Rattle.walk_theory.specs.Walks.{Config}
use Rattle.caf_events.specs.declared.event.Entry.{Entry}
use Rattle.checked_tree.specs.Statements as checked
use Rattle.image_acts.specs.Acts.{Act}
use Rattle.image_acts.specs.Core.{Core}
use Rattle.object_rules.specs.Cells.{Declared}
use Rattle.core_runs.specs.CoreRuns.{of_memory, said_by}
use Rattle.core_runs.specs.Lawful.{made_memory}
use Rattle.image_lanes.specs.Lanes.{OnLane, is_failure}
use Rattle.caf_report.specs.declared.report.Final.{Final}
use Rattle.program_walks.specs.Runs.{program_rules, program_begins}
use Rattle.machine_runs.specs.Runs.{StandsAfter}
use Rattle.final_values.specs.declared.listing.Listed.{Listed}
use Rattle.final_values.specs.Finals.{image_finals}

-- image i made a step that began its failure
abbrev pub has_failed_in : ℕ → List Entry → Bool
has_failed_in i t = list_any (λ e. is_failure e.ask) (said_by i t)

module _ (p : checked.Program) (limit : ℕ) (coarrays : List Declared) (n : ℕ) (fails_at : ℕ → ℕ) (words : ℕ) (listed : List Listed) (t : List Entry) where
  -- What the variables hold on image i: coarrays what its memory holds by the entries that stand there, the others what
  -- its program has computed where it stands. That is one place, at its next ask or its end: behind a limit, where the
  -- limit came.
  pub record AreImageFinals (i : ℕ) (own : List Final) : Type 0 where
    pub at : OnLane (Config Act Core)
    pub stands : StandsAfter (program_rules p limit) (program_begins p coarrays n fails_at words) t i at
    pub are : own ≡ image_finals listed i at.program.core (made_memory coarrays i) (of_memory i t)

  -- an image that failed has none
  abbrev pub AreOwnFinals : ℕ → List Final → Type 0
  AreOwnFinals i own = ((has_failed_in i t ≡ true) × (own ≡ [])) ⊎ ((has_failed_in i t ≡ false) × AreImageFinals i own)

  -- those of so many images from this one on, in rising order
  abbrev pub AreFinalsFrom : (i images : ℕ) → List Final → Type 0
  AreFinalsFrom i zero fs = fs ≡ []
  AreFinalsFrom i (suc more) fs = (own : List Final) × (rest : List Final) × AreOwnFinals i own × AreFinalsFrom (suc i) more rest × (fs ≡ own ++ rest)

  -- those of the run
  abbrev pub AreProgramFinals : List Final → Type 0
  AreProgramFinals fs = AreFinalsFrom 1 n fs
