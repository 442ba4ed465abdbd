use Rattle.core_runs.specs.Moments.{rules}
use Rattle.core_runs.proofs.CoreRuns.{core_run}
use Rattle.core_runs.proofs.laws.law_core_run.Goals as goal

pub returns : goal.returns
returns g c b m t kept trace = core_run (rules g.M.Walker g.O.Object g.B.Object) b m t kept trace
