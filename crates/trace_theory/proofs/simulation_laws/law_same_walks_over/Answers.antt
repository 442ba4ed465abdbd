use Rattle.trace_theory.proofs.Overlay.{same_walks_over}
use Rattle.trace_theory.proofs.simulation_laws.law_same_walks_over.Goals as goal

pub returns : goal.returns
returns g c sim stops on keeps = same_walks_over g.P.Pair.Source g.P.Pair.Target g.P.Pair.Ask g.P.Pair.Reply g.P.Pair.answers g.P.Pair.alike g.P.Pair.source g.P.Pair.target sim g.P.Pair.after g.P.Pair.near stops on keeps
