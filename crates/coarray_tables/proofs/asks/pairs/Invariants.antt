use Rattle.std.proofs.Common.{◌≡◌, ◌++◌, length}
use Rattle.image_acts.specs.Frames.{pairs_in}
use Rattle.coarray_tables.proofs.asks.pairs.Given as goal

-- the pairs so far, and the numbers that are left
abbrev pub invariant-loop-lower : goal.invariant-loop-lower
invariant-loop-lower l = l.pairs.items ++ pairs_in l.left ≡ pairs_in l.numbers

abbrev pub decreases-loop-lower : goal.decreases-loop-lower
decreases-loop-lower l = length l.left
