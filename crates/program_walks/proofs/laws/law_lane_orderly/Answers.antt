use Rattle.program_walks.proofs.LaneEnds.{lane_orderly, lane_over}
use Rattle.program_walks.proofs.laws.law_lane_orderly.Goals as goal

pub returns-clause-orderly : goal.returns-clause-orderly
returns-clause-orderly g c = lane_orderly g.M.Walker.step

pub returns-clause-ends : goal.returns-clause-ends
returns-clause-ends g c image fails_at limit first order ends = lane_over g.M.Walker.step image fails_at limit first order ends
