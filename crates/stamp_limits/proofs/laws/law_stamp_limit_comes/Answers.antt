use Rattle.core_runs.specs.Moments.{rules}
use Rattle.stamp_limits.proofs.Coming.{goes_on_limited}
use Rattle.stamp_limits.proofs.laws.law_stamp_limit_comes.Goals as goal

pub returns : goal.returns
returns g c b t x number run image on stands ask reply stamp later = goes_on_limited (rules g.M.Walker g.O.Object g.B.Object) b t x number run ask image on reply stamp stands later
