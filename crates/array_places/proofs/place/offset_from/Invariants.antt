use Rattle.std.proofs.Common.{◌≡◌, ◌+◌, ◌*◌, ◌^◌, ◌<◌, ◌≤◌, length}
use Rattle.std.specs.Prelude.{unsigned_abs}
use Rattle.image_acts.specs.Places.{dims_in}
use Rattle.array_places.specs.Offsets.{counts_of}
use Rattle.array_places.proofs.Counting.{at_of}
use Rattle.array_places.proofs.place.offset_from.Given as goal

-- the number of the cell in the dimensions that are left, and the offset so far
abbrev pub invariant-loop-count : goal.invariant-loop-count
invariant-loop-count l = record {
  within : l.number < counts_of l.left;
  less : l.number ≤ l.k;
  near : unsigned_abs l.at + l.number * 2 ^ 63 ≤ 2 ^ 63 + l.k * 2 ^ 63;
  same : at_of l.at (dims_in l.left) l.number ≡ at_of l.start (dims_in l.dims) l.k;
}

abbrev pub decreases-loop-count : goal.decreases-loop-count
decreases-loop-count l = length l.left
