use Rattle.std.proofs.Common.{◌≡◌, ℕ, [], length, get_or, ◌+◌, ◌-◌}
use Rattle.race_watch.proofs.row.reach.Given as goal

abbrev pub invariant-loop-alloc : goal.invariant-loop-alloc
invariant-loop-alloc l = (k : ℕ) → get_or l.cells.items k [] ≡ get_or l.initial.cells.items k []

abbrev pub decreases-loop-alloc : goal.decreases-loop-alloc
decreases-loop-alloc l = l.offset + 1 - length l.cells.items
