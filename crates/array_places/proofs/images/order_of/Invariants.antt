use Rattle.std.proofs.Common.{◌≡◌, length}
use Rattle.array_places.specs.Images.{order_found}
use Rattle.array_places.proofs.images.order_of.Given as goal

-- the place so far, and the codimensions that are left
abbrev pub invariant-loop-extent : goal.invariant-loop-extent
invariant-loop-extent l = order_found l.order l.weight l.lows l.more l.left ≡ order_found 0 1 l.lowers l.extents l.subscripts

abbrev pub decreases-loop-extent : goal.decreases-loop-extent
decreases-loop-extent l = length l.more
