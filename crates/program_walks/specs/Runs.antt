-- The run of a checked program: each image is a lane over the walk of the program's tree.
use Rattle.std.specs.Prelude.{ℕ, List, []}
use Rattle.walk_theory.specs.Walks.{Config}
use Rattle.walk_theory.specs.Code.{State, at_place, code_step}
use Rattle.walk_theory.specs.Made.{program_code}
use Rattle.checked_tree.specs.Statements as checked
use Rattle.image_acts.specs.Acts.{Act, ask, end_program}
use Rattle.image_acts.specs.Meaning.{image_language}
use Rattle.tree_meaning.specs.Forms.{bodies}
use Rattle.image_acts.specs.Core.{Core}
use Rattle.tree_meaning.specs.Start.{first_core, start_of, walk_step}
use Rattle.object_rules.specs.Cells.{Declared, MadeMemory}
use Rattle.core_runs.specs.Beginnings.{Beginning}
use Rattle.core_runs.specs.Lawful.{full_rules}
use Rattle.core_runs.specs.Moments.{Rules}
use Rattle.image_lanes.specs.Lanes.{OnLane, lane_step}
use Rattle.image_lanes.specs.LaneRuns.{lanes_begin}

-- The tree's walk goes on with every reply: which replies a machine that runs the program can hear is the machine's own
-- to say.
abbrev pub program_rules : checked.Program → (limit : ℕ) → Rules (OnLane (Config Act Core)) MadeMemory ℕ
program_rules p limit = full_rules (lane_step (walk_step p limit)) (λ l reply. Unit {0})

abbrev pub program_begins : checked.Program → List Declared → (n : ℕ) → (fails_at : ℕ → ℕ) → (words : ℕ) → Beginning (OnLane (Config Act Core)) MadeMemory ℕ
program_begins p coarrays n fails_at words = lanes_begin coarrays n (λ i. start_of p i n) fails_at words

-- the run of the program's code (walk_theory): each image is a lane over its steps
abbrev pub code_rules : checked.Program → (limit : ℕ) → Rules (OnLane (State Core)) MadeMemory ℕ
code_rules p limit = full_rules (lane_step (code_step image_language (program_code (ask end_program) p.end_line (bodies p)) limit)) (λ l reply. Unit {0})

abbrev pub code_begins : checked.Program → List Declared → (n : ℕ) → (fails_at : ℕ → ℕ) → (words : ℕ) → Beginning (OnLane (State Core)) MadeMemory ℕ
code_begins p coarrays n fails_at words = lanes_begin coarrays n (λ i. at_place 0 [] (first_core p i n) 0) fails_at words
