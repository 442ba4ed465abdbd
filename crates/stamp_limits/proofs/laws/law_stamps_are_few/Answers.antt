use Rattle.core_runs.specs.Moments.{rules}
use Rattle.stamp_limits.proofs.Limits.{stamps_few}
use Rattle.stamp_limits.proofs.laws.law_stamps_are_few.Goals as goal

pub returns : goal.returns
returns g c b t before after x lawful none split = stamps_few (rules g.M.Walker g.O.Object g.B.Object) b t before after x lawful none split
