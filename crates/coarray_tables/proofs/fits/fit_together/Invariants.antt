use Rattle.std.proofs.Common.{◌≡◌, ◌≤◌, length}
use Rattle.image_acts.specs.Statuses.{most_cells}
use Rattle.coarray_tables.specs.Fits.{are_fit}
use Rattle.coarray_tables.proofs.fits.fit_together.Given as goal

-- the cells so far, and the coarrays that are left
abbrev pub invariant-loop-coarray : goal.invariant-loop-coarray
invariant-loop-coarray l = record {
  few : l.cells ≤ most_cells;
  same : are_fit l.cells l.left ≡ are_fit 0 l.tables;
}

abbrev pub decreases-loop-coarray : goal.decreases-loop-coarray
decreases-loop-coarray l = length l.left
