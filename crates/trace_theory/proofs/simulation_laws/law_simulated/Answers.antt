use Rattle.trace_theory.proofs.Simulations.{simulated}
use Rattle.trace_theory.proofs.simulation_laws.law_simulated.Goals as goal

pub returns : goal.returns
returns g c sim = simulated g.P.Pair.Source g.P.Pair.Target g.P.Pair.Ask g.P.Pair.Reply g.P.Pair.alike g.P.Pair.answers g.P.Pair.source g.P.Pair.target sim
