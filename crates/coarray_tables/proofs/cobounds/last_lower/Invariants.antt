use Rattle.std.proofs.Common.{◌≡◌, pos, length}
use Rattle.image_acts.specs.Owning.{lowers_in}
use Rattle.coarray_tables.specs.Owns.{last_from}
use Rattle.coarray_tables.proofs.cobounds.last_lower.Given as goal

-- the codimensions that are left
abbrev pub invariant-loop-lower : goal.invariant-loop-lower
invariant-loop-lower l = last_from l.last (lowers_in l.left) ≡ last_from (pos 1) (lowers_in l.cobounds)

abbrev pub decreases-loop-lower : goal.decreases-loop-lower
decreases-loop-lower l = length l.left
