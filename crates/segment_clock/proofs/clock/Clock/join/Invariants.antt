use Rattle.std.proofs.Common.{◌≡◌, take}
use Rattle.segment_clock.specs.Counts.{joined}
use Rattle.segment_clock.proofs.clock.Clock.join.Given as goal

-- the counts so far are joined
abbrev pub invariant-loop-i : goal.invariant-loop-i
invariant-loop-i l = l.self-inside.counts.items ≡ joined l.initial.self-inside.counts.items (take l.i l.count-items)
