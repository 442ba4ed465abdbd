use Rattle.trace_theory.proofs.Weaving.{trace_of}
use Rattle.trace_theory.proofs.run_laws.law_trace_of.Goals as goal

pub returns : goal.returns
returns g c events histories t w s each = trace_of g.E.Entries.Entry g.E.Entries.image g.E.Entries.place g.E.Entries.stamp g.E.Entries.own events histories w t s each
