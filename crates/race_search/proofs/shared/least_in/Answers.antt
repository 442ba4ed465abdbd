use Rattle.std.proofs.Common.{arith, refl}
use Rattle.race_search.proofs.Least.{least_step}
use Rattle.race_search.proofs.shared.least_in.Goals as goal

pub loop-x-preserved : goal.loop-x-preserved
loop-x-preserved c = rw c.lesser-least.ensures (least_step c.args.xs.now c.loop-x.x-index 0 _ c.args.ys.now _ c.contains.result (omega arith) refl c.contains.ensures c.loop-x.invariant)
