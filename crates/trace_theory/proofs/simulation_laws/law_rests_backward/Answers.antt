use Rattle.trace_theory.proofs.Rests.{rests_backward}
use Rattle.trace_theory.proofs.simulation_laws.law_rests_backward.Goals as goal

pub returns : goal.returns
returns g c sim stops = rests_backward g.P.Pair.Source g.P.Pair.Target g.P.Pair.Ask g.P.Pair.Reply g.P.Pair.alike g.P.Pair.answers g.P.Pair.source g.P.Pair.target sim g.P.Pair.near stops
