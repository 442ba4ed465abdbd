use Rattle.image_lanes.specs.Lanes.{lane_step, lane_start}
use Rattle.core_runs.proofs.SaysSame.{walks_same}
use Rattle.program_walks.proofs.LaneSame.{lanes_say}
use Rattle.program_walks.proofs.laws.law_lanes_say_the_same.Goals as goal

pub returns-clause-says : goal.returns-clause-says
returns-clause-says g c = lanes_say g.M.Walker.step g.N.Walker.step

pub returns-clause-walks : goal.returns-clause-walks
returns-clause-walks g r image fails_at limit c d says es m answers w =
    let step = g.M.Walker.step in
    let step' = g.N.Walker.step in
    walks_same (lane_step step) (lane_step step') es (lane_start image fails_at limit c) m (lane_start image fails_at limit d) (lanes_say step step' image fails_at limit c d says) answers w
