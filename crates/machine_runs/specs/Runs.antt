-- Runs of machines whose code has the walks of a checked program: each image is a lane over a machine.
use Rattle.std.specs.Prelude.{ℕ, ◌≡◌, List}
use Rattle.trace_theory.specs.Equivalence.{SameWalks}
use Rattle.trace_theory.specs.Machines.{WalkTo, Rests}
use Rattle.walk_theory.specs.Walks.{Config}
use Rattle.walk_theory.specs.Code.{State, code_step}
use Rattle.walk_theory.specs.Programs.{SameCore}
use Rattle.caf_events.specs.Answers.{Answers}
use Rattle.caf_events.specs.declared.event.Entry.{Entry}
use Rattle.checked_tree.specs.Statements as checked
use Rattle.image_acts.specs.Acts.{Act}
use Rattle.image_acts.specs.Core.{Core}
use Rattle.image_acts.specs.Meaning.{image_language}
use Rattle.image_code.specs.Code.{Whole, code_of}
use Rattle.image_state.specs.declared.state.Rooms.{Rooms}
use Rattle.image_machine.specs.Engine.{Engine, with_state, start_of}
use Rattle.image_machine.specs.Start.{first_state}
use Rattle.object_rules.specs.Cells.{Declared, MadeMemory}
use Rattle.core_runs.specs.Beginnings.{Beginning, IsOneOf}
use Rattle.core_runs.specs.CoreRuns.{said_by}
use Rattle.core_runs.specs.Moments.{Rules}
use Rattle.image_lanes.specs.Lanes.{OnLane}
use Rattle.image_lanes.specs.LaneRuns.{lanes_begin}
use Rattle.tree_meaning.specs.Start as tree

-- the machine with this code stands where the code does
abbrev pub StandsAt : Engine → State Core → Engine → Type 0
StandsAt m d e = e ≡ with_state m d

-- the code has the walks of the program from where the machine begins, on image me of so many
abbrev pub HasWalksFrom : checked.Program → (limit me images : ℕ) → Whole → Type 0
HasWalksFrom p limit me images w = SameWalks Answers SameCore SameCore (tree.walk_step p limit) (tree.start_of p me images) (code_step image_language (code_of w.program) limit) (first_state w me images)

-- the same on each of n images
abbrev pub HasWalksOn : checked.Program → (limit n : ℕ) → Whole → Type 0
HasWalksOn p limit n w = (i : ℕ) → IsOneOf n i → HasWalksFrom p limit i n w

-- n machines at the start of their code, each with its room
abbrev pub machines_begin : Whole → (limit : ℕ) → (rooms : ℕ → Rooms) → List Declared → (n : ℕ) → (fails_at : ℕ → ℕ) → (words : ℕ) → Beginning (OnLane Engine) MadeMemory ℕ
machines_begin w limit rooms coarrays n fails_at words = lanes_begin coarrays n (λ i. start_of w limit (rooms i) i n) fails_at words

-- image i stands there after a trace: its own events have walked it to this place, at its next ask or its end
pub record StandsAfter {C M B : Type 0} (r : Rules C M B) (b : Beginning C M B) (t : List Entry) (i : ℕ) (c : C) : Type 0 where
  pub walks : WalkTo r.step (b.first i) (said_by i t) c
  pub rests : Rests (r.step c)

-- the program has computed what the machine has
abbrev pub HasComputed : Engine → Config Act Core → Type 0
HasComputed e c = c.core ≡ e.state.core
