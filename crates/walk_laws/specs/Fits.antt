-- Where an image stands after a trace, with what it was told; and that the memories of a run are those of a program.
use Rattle.std.specs.Prelude.{ℕ, ◌≡◌, cond, map, List, [], ◌∷◌, Option, Some, None}
use Rattle.caf_events.specs.declared.ask.Ask.{Ask}
use Rattle.caf_events.specs.declared.event.Entry.{Entry}
use Rattle.caf_events.specs.declared.reply.Reply.{Reply}
use Rattle.caf_events.specs.Walkers.{AsksNext}
use Rattle.trace_theory.specs.Machines.{Said, WalkTo}
use Rattle.walk_theory.specs.Walks.{Config}
use Rattle.checked_tree.specs.Statements as checked
use Rattle.tree_meaning.specs.Start.{own_coarrays}
use Rattle.image_acts.specs.Acts.{Act}
use Rattle.image_acts.specs.Core.{Core}
use Rattle.image_lanes.specs.Lanes.{OnLane}
use Rattle.object_rules.specs.Cells.{Declared}
use Rattle.core_runs.specs.Beginnings.{IsOneOf}
use Rattle.core_runs.specs.CoreRuns.{said_by}
use Rattle.program_walks.specs.Runs.{program_rules, program_begins}
use Rattle.told_walks.specs.Asked.{Told, own_cells, told_next}

-- the image has come to this ask after the trace
pub record StandsAt (p : checked.Program) (limit : ℕ) (coarrays : List Declared) (n : ℕ) (fails_at : ℕ → ℕ) (words : ℕ) (t : List Entry) (i : ℕ) (ask : Ask) : Type 0 where
  pub image : IsOneOf n i
  pub config : OnLane (Config Act Core)
  pub walks : WalkTo (program_rules p limit).step ((program_begins p coarrays n fails_at words).first i) (said_by i t) config
  pub asks : AsksNext ((program_rules p limit).step config) ask

-- how many cells a declared coarray has from the start, where it is there
abbrev pub first_cells : Declared → Option ℕ
first_cells d = cond d.allocatable None (Some d.cells)

-- each memory has from the start those coarrays of the program that aren't allocatable, in as many cells as the program
-- declares
abbrev pub AreDeclaredBy : checked.Program → List Declared → Type 0
AreDeclaredBy p coarrays = map first_cells coarrays ≡ map own_cells (own_coarrays p)

-- what an image was told after what it said and heard
abbrev pub told_by : Told → List (Said Ask Reply) → Told
told_by k [] = k
told_by k (e ∷ es) = told_by (told_next k e.ask e.reply) es
