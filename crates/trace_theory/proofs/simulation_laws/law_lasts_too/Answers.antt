use Rattle.trace_theory.proofs.Overlay.{lasts_too}
use Rattle.trace_theory.proofs.simulation_laws.law_lasts_too.Goals as goal

pub returns : goal.returns
returns g c sim = lasts_too g.P.Pair.Source g.P.Pair.Target g.P.Pair.Ask g.P.Pair.Reply g.P.Pair.answers g.P.Pair.alike g.P.Pair.source g.P.Pair.target sim
