use Rattle.std.proofs.Common.{◌≡◌, ℕ, length, get_or, ◌+◌, ◌-◌, None}
use Rattle.decided_watch.proofs.events.reach_offset.Given as goal

abbrev pub invariant-loop-posters : goal.invariant-loop-posters
invariant-loop-posters l = (k : ℕ) → get_or l.posters.items k None ≡ get_or l.initial.posters.items k None

abbrev pub decreases-loop-posters : goal.decreases-loop-posters
decreases-loop-posters l = l.offset + 1 - length l.posters.items
