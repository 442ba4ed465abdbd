use Rattle.std.proofs.Common.{refl, arith}
use Rattle.race_watch.specs.Tables.{numbered_at}
use Rattle.race_watch.proofs.Keys as keys
use Rattle.race_watch.proofs.order.put_each.Goals as goal

pub loop-other-preserved : goal.loop-other-preserved
loop-other-preserved c x y =
    keys.put_more x y c.args.image.0 c.loop-other.other-index _ 0 c.args.named.now c.args.own.now (numbered_at c.args.pairs.now x y) (numbered_at c.loop-other.pairs x y) (numbered_at c.put.new.self x y) c.requires.apart (omega arith) refl (c.loop-other.invariant x y) (c.in_ok-put.ensures x y)
