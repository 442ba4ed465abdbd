-- An image that runs a checked program, or code that has its walks, is over only behind a step that ended it.
use Rattle.std.proofs.Common.{ℕ, List, [], subst}
use Rattle.checked_tree.specs.Statements as checked
use Rattle.caf_events.specs.declared.ask.Ask.{Ask}
use Rattle.caf_events.specs.declared.reply.Reply.{Reply}
use Rattle.caf_events.specs.Answers.{Answers}
use Rattle.caf_events.specs.Walkers.{IsOver}
use Rattle.trace_theory.specs.Machines.{Move, goes, asks, over, Rests}
use Rattle.trace_theory.specs.Simulations.{SameRest}
use Rattle.walk_theory.specs.Code.{Line, at_place, code_step}
use Rattle.walk_theory.specs.Programs.{HasWalksOf}
use Rattle.image_acts.specs.Acts.{Act, ask, end_program}
use Rattle.image_acts.specs.Meaning.{image_language}
use Rattle.tree_meaning.specs.Forms.{bodies}
use Rattle.tree_meaning.specs.Start.{first_core, start_of, walk_step}
use Rattle.core_runs.specs.Sequences.{EndsByItself}
use Rattle.image_lanes.specs.Lanes.{lane_step, lane_start}
use Rattle.program_walks.specs.Ordered.{EndsInOrder}
use Rattle.program_walks.proofs.Programs.{program_goes, program_ends}
use Rattle.program_walks.proofs.LaneEnds.{lane_over}
use Rattle.program_walks.proofs.Fits.{code_goes}

over_rests : {C : Type 0} (v : Move C Ask Reply) → IsOver v → Rests v
over_rests (goes c) o = absurd o
over_rests (asks a l k) o = absurd o
over_rests over o = tt

-- where the second is over and rests as the first, that is over too
both_over : {C D : Type 0} (v : Move C Ask Reply) (u : Move D Ask Reply) → SameRest v u → IsOver u → IsOver v
both_over (goes c) u same o = absurd same
both_over (asks a l k) u same o = absurd (subst IsOver same.1 o)
both_over over u same o = tt

pub code_ends : (p : checked.Program) (limit me n : ℕ) (code : List (Line Act)) → HasWalksOf image_language Answers (ask end_program) (bodies p) p.end_line limit (first_core p me n) code
    → EndsInOrder (code_step image_language code limit) (at_place 0 [] (first_core p me n) 0)
code_ends p limit me n code same es c answers w o =
    let there = same.rests_backward es c answers w (over_rests (code_step image_language code limit c) o) in
    program_ends p limit me n es there.0 answers there.1 (both_over (walk_step p limit there.0) (code_step image_language code limit c) there.3 o)

pub program_image_ends : (p : checked.Program) (limit image images fails_at words : ℕ) → EndsByItself (lane_step (walk_step p limit)) (lane_start image fails_at words (start_of p image images))
program_image_ends p limit image images fails_at words = lane_over (walk_step p limit) image fails_at words (start_of p image images) (program_goes p limit image images) (program_ends p limit image images)

pub code_image_ends : (p : checked.Program) (limit image images fails_at words : ℕ) (code : List (Line Act)) → HasWalksOf image_language Answers (ask end_program) (bodies p) p.end_line limit (first_core p image images) code
    → EndsByItself (lane_step (code_step image_language code limit)) (lane_start image fails_at words (at_place 0 [] (first_core p image images) 0))
code_image_ends p limit image images fails_at words code same =
    lane_over (code_step image_language code limit) image fails_at words (at_place 0 [] (first_core p image images) 0) (code_goes p limit image images code same) (code_ends p limit image images code same)
