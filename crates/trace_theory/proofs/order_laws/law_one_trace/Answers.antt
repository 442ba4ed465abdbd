use Rattle.trace_theory.proofs.Orders.{one_trace}
use Rattle.trace_theory.proofs.order_laws.law_one_trace.Goals as goal

pub returns : goal.returns
returns g c = one_trace g.E.Entries.Entry g.E.Entries.image g.E.Entries.stamp
