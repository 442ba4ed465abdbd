use Rattle.std.proofs.Common.{◌≡◌, length}
use Rattle.coarray_tables.specs.Fits.{are_first_cobounds}
use Rattle.coarray_tables.proofs.fits.are_first_cobounds.Given as goal

-- the codimensions that are left
abbrev pub invariant-loop-lower : goal.invariant-loop-lower
invariant-loop-lower l = are_first_cobounds l.lows l.more ≡ are_first_cobounds l.lowers l.extents

abbrev pub decreases-loop-lower : goal.decreases-loop-lower
decreases-loop-lower l = length l.lows
