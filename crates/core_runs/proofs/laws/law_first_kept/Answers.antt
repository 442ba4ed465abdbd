use Rattle.core_runs.specs.Moments.{rules}
use Rattle.core_runs.proofs.Beginnings.{first_kept}
use Rattle.core_runs.proofs.laws.law_first_kept.Goals as goal

pub returns : goal.returns
returns g c b m fit f = first_kept (rules g.M.Walker g.O.Object g.B.Object) b m fit f
