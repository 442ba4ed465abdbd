use Rattle.program_walks.proofs.LaneOrder.{lane_joins, lane_nothing_after, lane_fails}
use Rattle.program_walks.proofs.laws.law_lane_goes_in_order.Goals as goal

pub returns : goal.returns
returns g r image fails_at limit first o es c answers w =
    let step = g.M.Walker.step in
    (lane_joins step first o image fails_at limit es c answers w, lane_nothing_after step first o image fails_at limit es c answers w, lane_fails step first o image fails_at limit es c answers w)
