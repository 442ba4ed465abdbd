use Rattle.std.proofs.Common.{◌≡◌, ℕ, length, get_or, ◌+◌, ◌-◌}
use Rattle.decided_watch.specs.EventTables.{untouched}
use Rattle.decided_watch.proofs.events.reach_coarray.Given as goal

abbrev pub invariant-loop-alloc : goal.invariant-loop-alloc
invariant-loop-alloc l = (k : ℕ) → get_or l.coarrays.items k untouched ≡ get_or l.initial.coarrays.items k untouched

abbrev pub decreases-loop-alloc : goal.decreases-loop-alloc
decreases-loop-alloc l = l.coarray + 1 - length l.coarrays.items
