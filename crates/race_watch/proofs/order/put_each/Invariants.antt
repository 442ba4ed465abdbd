use Rattle.std.proofs.Common.{◌≡◌, ℕ, ◌&&◌, nat_eq, cond, take}
use Rattle.order_theory.specs.Acts.{names}
use Rattle.race_watch.specs.Tables.{numbered_at, with_next}
use Rattle.race_watch.proofs.order.put_each.Given as goal

abbrev pub invariant-loop-other : goal.invariant-loop-other
invariant-loop-other l = (x y : ℕ) → numbered_at l.pairs x y ≡ cond (nat_eq x l.image.0 && names y (take l.other-index l.named)) (with_next l.own (numbered_at l.initial.pairs x y)) (numbered_at l.initial.pairs x y)
