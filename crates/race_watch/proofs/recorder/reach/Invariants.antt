use Rattle.std.proofs.Common.{◌≡◌, ℕ, length, get_or, ◌+◌, ◌-◌}
use Rattle.race_watch.proofs.recorder.reach.Given as goal

abbrev pub invariant-loop-made : goal.invariant-loop-made
invariant-loop-made l = (k : ℕ) → get_or l.made.items k 0 ≡ get_or l.initial.made.items k 0

abbrev pub decreases-loop-made : goal.decreases-loop-made
decreases-loop-made l = l.line + 1 - length l.made.items
