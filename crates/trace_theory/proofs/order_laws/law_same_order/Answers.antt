use Rattle.trace_theory.proofs.Orders.{same_order}
use Rattle.trace_theory.proofs.order_laws.law_same_order.Goals as goal

pub returns : goal.returns
returns g c = same_order g.E.Entries.Entry g.E.Entries.image g.E.Entries.stamp
