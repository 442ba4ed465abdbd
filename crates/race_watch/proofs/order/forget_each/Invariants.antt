use Rattle.race_watch.specs.Orders.{ForgetsUsed}
use Rattle.race_watch.proofs.order.forget_each.Given as goal

abbrev pub invariant-loop-other : goal.invariant-loop-other
invariant-loop-other l = ForgetsUsed l.initial.pairs l.pairs
