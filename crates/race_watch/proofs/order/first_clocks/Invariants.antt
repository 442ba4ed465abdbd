use Rattle.std.proofs.Common.{◌≡◌, ℕ, ◌+◌, ◌<◌, [], length, get_or, replicate}
use Rattle.segment_clock.specs.Counts.{ticked}
use Rattle.race_watch.proofs.order.first_clocks.Given as goal

abbrev pub invariant-loop-i : goal.invariant-loop-i
invariant-loop-i l = record {
  count : length l.images.items ≡ l.i;
  clocks : (j : ℕ) → j < l.i → get_or l.images.items j [] ≡ ticked (replicate l.n 0) (j + 1);
}
