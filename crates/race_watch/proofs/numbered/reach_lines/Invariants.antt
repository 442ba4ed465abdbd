use Rattle.std.proofs.Common.{◌≡◌, ℕ, [], length, get_or, ◌+◌, ◌-◌}
use Rattle.race_watch.proofs.numbered.reach_lines.Given as goal

abbrev pub invariant-loop-alloc : goal.invariant-loop-alloc
invariant-loop-alloc l = (k : ℕ) → get_or l.rows.items k [] ≡ get_or l.initial.rows.items k []

abbrev pub decreases-loop-alloc : goal.decreases-loop-alloc
decreases-loop-alloc l = l.line + 1 - length l.rows.items
