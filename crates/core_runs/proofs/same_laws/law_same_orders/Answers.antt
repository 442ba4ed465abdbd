use Rattle.core_runs.specs.Moments.{rules}
use Rattle.core_runs.proofs.SameRuns.{order_by_fit, order_by_replies}
use Rattle.core_runs.proofs.same_laws.law_same_orders.Goals as goal

pub returns-clause-fit : goal.returns-clause-fit
returns-clause-fit g c b first says fit s t o = order_by_fit (rules g.M.Walker g.O.Object g.B.Object) g.N.Walker.step g.N.Walker.hears g.S.Choices.chooser b first says s t fit o

pub returns-clause-replies : goal.returns-clause-replies
returns-clause-replies g c b first says answer s t o = order_by_replies (rules g.M.Walker g.O.Object g.B.Object) g.N.Walker.step g.N.Walker.hears g.S.Choices.chooser b first says s t answer o
