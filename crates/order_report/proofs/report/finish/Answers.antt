use Rattle.core_runs.specs.Moments.{rules}
use Rattle.image_core.specs.Parts.{moment}
use Rattle.order_report.proofs.Runs.{no_further}
use Rattle.order_report.proofs.report.finish.Goals as goal

pub returns-clause-over : goal.returns-clause-over
returns-clause-over g c = no_further (rules g.M.Walker g.O.Object g.B.Object) (moment g.M.Walker g.O.Object g.B.Object c.run_order.new.self) c.in_ok-run_order.field-0 c.in_ok-run_order.ensures.run.so.0

pub returns-clause-on : goal.returns-clause-on
returns-clause-on g c = record { last = c.run_order.new.choices; end = c.in_ok-run_order.field-0; run = c.in_ok-run_order.ensures.run }
