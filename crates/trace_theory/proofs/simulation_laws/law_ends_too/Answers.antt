use Rattle.trace_theory.proofs.Rests.{ends_too}
use Rattle.trace_theory.proofs.simulation_laws.law_ends_too.Goals as goal

pub returns : goal.returns
returns g c sim = ends_too g.P.Pair.Source g.P.Pair.Target g.P.Pair.Ask g.P.Pair.Reply g.P.Pair.alike g.P.Pair.answers g.P.Pair.source g.P.Pair.target sim
