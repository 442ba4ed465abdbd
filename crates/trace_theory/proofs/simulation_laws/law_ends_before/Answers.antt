use Rattle.trace_theory.proofs.Rests.{ends_before}
use Rattle.trace_theory.proofs.simulation_laws.law_ends_before.Goals as goal

pub returns : goal.returns
returns g c = ends_before g.P.Pair.Source g.P.Pair.Target g.P.Pair.Ask g.P.Pair.Reply g.P.Pair.alike g.P.Pair.source g.P.Pair.target
