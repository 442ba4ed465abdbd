use Rattle.core_runs.specs.Moments.{rules}
use Rattle.core_runs.proofs.Unique.{one_order_trace}
use Rattle.core_runs.proofs.order_laws.law_one_order_trace.Goals as goal

pub returns : goal.returns
returns g c = one_order_trace g.M.Walker.Config g.O.Object.Made g.B.Object.Made g.S.Choices.State (rules g.M.Walker g.O.Object g.B.Object) g.S.Choices.chooser
