use Rattle.race_watch.proofs.Marking.{passed}
use Rattle.race_watch.proofs.marks.Marks.note.Goals as goal

pub returns-in-None : goal.returns-in-None
returns-in-None c = passed c.args.n c.args.before.now c.args.order.now c.requires.order c.args.e.now c.requires.image.0 c.requires.image.1 _ c.requires.marks (let t = c.requires.touch in (rw c.in-None.is at t))
