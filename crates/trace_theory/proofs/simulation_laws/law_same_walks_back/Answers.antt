use Rattle.trace_theory.proofs.Equivalence.{same_walks_back}
use Rattle.trace_theory.proofs.simulation_laws.law_same_walks_back.Goals as goal

pub returns : goal.returns
returns g c x y same = same_walks_back g.P.Pair.Source g.P.Pair.Target g.P.Pair.Ask g.P.Pair.Reply g.P.Pair.answers g.P.Pair.after g.P.Pair.near g.P.Pair.source x g.P.Pair.target y same
