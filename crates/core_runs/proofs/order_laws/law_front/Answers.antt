use Rattle.core_runs.specs.Moments.{rules}
use Rattle.core_runs.proofs.Fronts.{core_run_front}
use Rattle.core_runs.proofs.order_laws.law_front.Goals as goal

pub returns : goal.returns
returns g c = λ b front rest. core_run_front g.M.Walker.Config g.O.Object.Made g.B.Object.Made (rules g.M.Walker g.O.Object g.B.Object) b front rest
