use Rattle.std.proofs.Common.{◌≡◌, ℕ, length, get_or, ◌+◌, ◌-◌}
use Rattle.race_watch.specs.Tables.{none_yet}
use Rattle.race_watch.proofs.numbered.reach_places.Given as goal

abbrev pub invariant-loop-alloc : goal.invariant-loop-alloc
invariant-loop-alloc l = (k : ℕ) → get_or l.queues.items k none_yet ≡ get_or l.initial.queues.items k none_yet

abbrev pub decreases-loop-alloc : goal.decreases-loop-alloc
decreases-loop-alloc l = l.place + 1 - length l.queues.items
