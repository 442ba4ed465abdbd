use Rattle.trace_theory.proofs.Back.{simulated_back}
use Rattle.trace_theory.proofs.simulation_laws.law_simulated_back.Goals as goal

pub returns : goal.returns
returns g c sim = simulated_back g.P.Pair.Source g.P.Pair.Target g.P.Pair.Ask g.P.Pair.Reply g.P.Pair.alike g.P.Pair.answers g.P.Pair.source g.P.Pair.target sim
