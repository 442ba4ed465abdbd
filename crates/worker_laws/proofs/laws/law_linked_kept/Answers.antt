use Rattle.core_runs.specs.Moments.{rules}
use Rattle.worker_laws.proofs.Together.{kept}
use Rattle.worker_laws.proofs.laws.law_linked_kept.Goals as goal

pub returns : goal.returns
returns g c b m h = kept (rules g.M.Walker g.O.Object g.B.Object) b m h
