use Rattle.stamp_limits.proofs.FullyLawful.{limited_lawful}
use Rattle.stamp_limits.proofs.laws.law_stamp_limited_run_lawful.Goals as goal

pub returns : goal.returns
returns g c = limited_lawful g.M.Walker.step g.M.Walker.hears
