use Rattle.core_runs.specs.Moments.{rules}
use Rattle.core_runs.proofs.KeptMore.{kept_more}
use Rattle.core_runs.proofs.laws.law_kept_more.Goals as goal

pub returns : goal.returns
returns g c b m m' i e kept step = kept_more (rules g.M.Walker g.O.Object g.B.Object) b m m' i e kept step
