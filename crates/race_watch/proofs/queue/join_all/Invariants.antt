use Rattle.std.proofs.Common.{◌≡◌, drop, length}
use Rattle.race_watch.specs.Tables.{joined_all}
use Rattle.race_watch.proofs.queue.join_all.Given as goal

abbrev pub invariant-loop-other : goal.invariant-loop-other
invariant-loop-other l = (length l.clock ≡ length l.initial.clock) × (joined_all l.clock (drop l.other-index l.clocks) ≡ joined_all l.initial.clock l.clocks)
