use Rattle.core_runs.specs.Moments.{rules}
use Rattle.stamp_limits.proofs.Fronts.{limited_front}
use Rattle.stamp_limits.proofs.laws.law_stamp_limited_front.Goals as goal

pub returns : goal.returns
returns g c b front rest run = limited_front (rules g.M.Walker g.O.Object g.B.Object) b front rest run
