use Rattle.std.proofs.Common.{◌≡◌, length}
use Rattle.image_acts.specs.Owning.{lowers_in, extents_in}
use Rattle.array_places.specs.Images.{order_found}
use Rattle.coarray_tables.proofs.cobounds.order_of.Given as goal

-- the place so far, and the codimensions that are left
abbrev pub invariant-loop-lower : goal.invariant-loop-lower
invariant-loop-lower l = order_found l.order l.weight (lowers_in l.more) (extents_in l.more) l.left ≡ order_found 0 1 (lowers_in l.cobounds) (extents_in l.cobounds) l.subscripts

abbrev pub decreases-loop-lower : goal.decreases-loop-lower
decreases-loop-lower l = length l.more
