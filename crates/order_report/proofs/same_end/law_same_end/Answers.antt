use Rattle.core_runs.specs.Moments.{rules}
use Rattle.order_report.proofs.SameEnd.{report_end_too}
use Rattle.order_report.proofs.same_end.law_same_end.Goals as goal

pub returns : goal.returns
returns g c b a t images waits n end h = report_end_too (rules g.M.Walker g.O.Object g.B.Object) (rules g.N.Walker g.O.Object g.B.Object) b a t images waits n end h
