use Rattle.worker_laws.proofs.Counts.{stamps_few, object_stamps_few}
use Rattle.worker_laws.proofs.laws.law_stamps_few.Goals as goal

pub returns-clause-images : goal.returns-clause-images
returns-clause-images g c n events histories w none plain i = stamps_few g.E.Entries.Entry g.E.Entries.image g.E.Entries.place g.E.Entries.stamp g.E.Entries.own n events histories w none plain i

pub returns-clause-objects : goal.returns-clause-objects
returns-clause-objects g c n events histories w none plain o = object_stamps_few g.E.Entries.Entry g.E.Entries.image g.E.Entries.place g.E.Entries.stamp g.E.Entries.own n events histories w none plain o
