use Rattle.std.proofs.Common.{refl, arith}
use Rattle.race_watch.proofs.Forgetting.{forgets_none, used_more, used_counts}
use Rattle.race_watch.proofs.order.forget_each.Goals as goal

pub count-count-requires : goal.count-count-requires
count-count-requires c = used_counts c.args.pairs.now c.loop-other.pairs c.loop-other.invariant c.requires _ _

pub loop-other-init : goal.loop-other-init
loop-other-init c j h = forgets_none _ _ _ refl

pub loop-other-preserved : goal.loop-other-preserved
loop-other-preserved c =
    used_more c.args.image.0 _ c.saturating_sub.result c.args.pairs.now c.loop-other.pairs c.forget.new.self c.loop-other.invariant
    (let a = c.saturating_sub.ensures in let b = c.count-count.ensures in omega arith) c.forget.ensures
