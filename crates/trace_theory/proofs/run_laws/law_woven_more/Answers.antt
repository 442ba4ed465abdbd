use Rattle.trace_theory.proofs.More.{woven_more}
use Rattle.trace_theory.proofs.run_laws.law_woven_more.Goals as goal

pub returns : goal.returns
returns g c events histories events' histories' e w m = woven_more g.E.Entries.Entry g.E.Entries.image g.E.Entries.place g.E.Entries.stamp g.E.Entries.own events histories events' histories' e w m
