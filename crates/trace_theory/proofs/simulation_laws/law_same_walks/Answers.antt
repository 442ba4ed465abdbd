use Rattle.trace_theory.proofs.Equivalence.{same_walks}
use Rattle.trace_theory.proofs.simulation_laws.law_same_walks.Goals as goal

pub returns : goal.returns
returns g c sim stops ends keeps x y h = same_walks g.P.Pair.Source g.P.Pair.Target g.P.Pair.Ask g.P.Pair.Reply g.P.Pair.answers g.P.Pair.alike g.P.Pair.after g.P.Pair.near g.P.Pair.source x g.P.Pair.target y sim stops ends keeps h
