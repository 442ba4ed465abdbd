use Rattle.std.proofs.Common.{◌≡◌, ℕ, length, get_or, ◌+◌, ◌-◌, None}
use Rattle.race_watch.proofs.table.reach_places.Given as goal

abbrev pub invariant-loop-clocks : goal.invariant-loop-clocks
invariant-loop-clocks l = (k : ℕ) → get_or l.clocks.items k None ≡ get_or l.initial.clocks.items k None

abbrev pub decreases-loop-clocks : goal.decreases-loop-clocks
decreases-loop-clocks l = l.place + 1 - length l.clocks.items
