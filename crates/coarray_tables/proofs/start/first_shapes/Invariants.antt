use Rattle.std.proofs.Common.{◌≡◌, ◌++◌, map, length}
use Rattle.coarray_tables.specs.Owns.{owns_of}
use Rattle.coarray_tables.specs.Start.{AreFew, first_own}
use Rattle.coarray_tables.proofs.start.first_shapes.Given as goal

-- the coarrays so far, and those that are left
abbrev pub invariant-loop-coarray : goal.invariant-loop-coarray
invariant-loop-coarray l = record {
  few : AreFew l.left;
  same : owns_of l.shapes.items ++ map first_own l.left ≡ map first_own l.tables;
}

abbrev pub decreases-loop-coarray : goal.decreases-loop-coarray
decreases-loop-coarray l = length l.left
