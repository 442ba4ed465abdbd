use Rattle.std.proofs.Common.{◌≡◌, length}
use Rattle.coarray_tables.specs.Owns.{are_cobounds}
use Rattle.coarray_tables.proofs.cobounds.are_cobounds.Given as goal

-- the codimensions that are left
abbrev pub invariant-loop-lower : goal.invariant-loop-lower
invariant-loop-lower l = are_cobounds l.left ≡ are_cobounds l.cobounds

abbrev pub decreases-loop-lower : goal.decreases-loop-lower
decreases-loop-lower l = length l.left
