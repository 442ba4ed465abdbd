use Rattle.core_runs.specs.Moments.{rules}
use Rattle.core_runs.proofs.OrderTraces.{order_core}
use Rattle.core_runs.proofs.order_laws.law_order_core.Goals as goal

pub returns : goal.returns
returns g c b s t fit trace = order_core (rules g.M.Walker g.O.Object g.B.Object) b g.S.Choices.chooser s t fit trace
