use Rattle.std.proofs.Common.{◌≡◌, ◌+◌, ◌*◌, ◌≤◌, ◌++◌, length}
use Rattle.image_acts.specs.Frames.{pairs_numbers}
use Rattle.coarray_tables.proofs.start.bound_numbers.Given as goal

-- the numbers so far, and the pairs that are left
abbrev pub invariant-loop-pair : goal.invariant-loop-pair
invariant-loop-pair l = record {
  room : length l.few + 2 * length l.left ≤ 6;
  same : l.few ++ pairs_numbers l.left ≡ pairs_numbers l.bounds;
}

abbrev pub decreases-loop-pair : goal.decreases-loop-pair
decreases-loop-pair l = length l.left
