use Rattle.trace_theory.proofs.Fronts.{woven_front}
use Rattle.trace_theory.proofs.run_laws.law_woven_front.Goals as goal

pub returns : goal.returns
returns g c events histories events' histories' w f = woven_front g.E.Entries.Entry g.E.Entries.image g.E.Entries.place g.E.Entries.stamp g.E.Entries.own events histories events' histories' w f
