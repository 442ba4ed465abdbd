use Rattle.core_runs.specs.Moments.{rules}
use Rattle.core_runs.proofs.Waits.{waiting}
use Rattle.core_runs.proofs.laws.law_waiting.Goals as goal

pub returns : goal.returns
returns g c b m t i d ask line kept trace at stuck asks here = waiting (rules g.M.Walker g.O.Object g.B.Object) b m t kept trace i d at stuck ask line asks here
