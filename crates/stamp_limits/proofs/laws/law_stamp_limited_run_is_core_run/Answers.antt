use Rattle.core_runs.specs.Moments.{rules}
use Rattle.stamp_limits.proofs.Limits.{core_few, core_low}
use Rattle.stamp_limits.proofs.laws.law_stamp_limited_run_is_core_run.Goals as goal

pub returns-clause-few : goal.returns-clause-few
returns-clause-few g c b t run short = core_few (rules g.M.Walker g.O.Object g.B.Object) b t run short

pub returns-clause-low : goal.returns-clause-low
returns-clause-low g c b t run low = core_low (rules g.M.Walker g.O.Object g.B.Object) b t run low
