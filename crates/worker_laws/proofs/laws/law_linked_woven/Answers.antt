use Rattle.worker_laws.proofs.Links.{woven}
use Rattle.worker_laws.proofs.laws.law_linked_woven.Goals as goal

pub returns : goal.returns
returns g c count events histories a plain = woven g.E.Entries.Entry g.E.Entries.image g.E.Entries.place g.E.Entries.stamp g.E.Entries.own count events histories a plain
