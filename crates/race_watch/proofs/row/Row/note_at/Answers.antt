use Rattle.std.proofs.Common.{[], get_or, arith, refl}
use Rattle.race_watch.specs.Classes.{as_mark}
use Rattle.race_watch.proofs.Noting.{note_more}
use Rattle.race_watch.proofs.row.Row.note_at.Goals as goal

pub loop-offset-preserved : goal.loop-offset-preserved
loop-offset-preserved c k = note_more k c.loop-offset.offset-index _ 0 c.args.offsets.now (as_mark c.args.q.now) (get_or c.args.self.now k []) (get_or c.loop-offset.self k []) (get_or c.note.new.self k []) (omega arith) refl (c.loop-offset.invariant k) (c.in_ok-note.ensures k)
