use Rattle.core_runs.specs.Moments.{rules}
use Rattle.core_runs.proofs.Waits.{stopped}
use Rattle.core_runs.proofs.laws.law_ended.Goals as goal

pub returns : goal.returns
returns g c b m t i d kept trace ends at over = stopped (rules g.M.Walker g.O.Object g.B.Object) b m t kept trace i d at ends over
