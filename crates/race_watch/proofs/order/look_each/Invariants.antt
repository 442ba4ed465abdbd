use Rattle.std.proofs.Common.{◌≡◌, length, drop}
use Rattle.race_watch.specs.Orders.{paired}
use Rattle.race_watch.proofs.order.look_each.Given as goal

abbrev pub invariant-loop-other : goal.invariant-loop-other
invariant-loop-other l = (length l.clock ≡ length l.initial.clock) × (paired l.pairs l.image.0 (drop l.other-index l.named) l.clock ≡ paired l.pairs l.image.0 l.named l.initial.clock)
