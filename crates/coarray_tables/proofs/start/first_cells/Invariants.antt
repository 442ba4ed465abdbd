use Rattle.std.proofs.Common.{◌≡◌, ◌+◌, length}
use Rattle.std.specs.Prelude.{sum_by}
use Rattle.coarray_tables.specs.Owns.{owns_of}
use Rattle.coarray_tables.specs.Start.{own_size}
use Rattle.coarray_tables.proofs.start.first_cells.Given as goal

-- the cells so far, and those of the coarrays that are left
abbrev pub invariant-loop-shape : goal.invariant-loop-shape
invariant-loop-shape l = l.cells + sum_by own_size (owns_of l.left) ≡ sum_by own_size (owns_of l.shapes)

abbrev pub decreases-loop-shape : goal.decreases-loop-shape
decreases-loop-shape l = length l.left
