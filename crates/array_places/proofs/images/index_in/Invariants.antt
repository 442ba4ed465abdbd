use Rattle.std.proofs.Common.{◌≡◌, ◌+◌, length}
use Rattle.image_acts.specs.Teams.{index_in}
use Rattle.array_places.proofs.Orders.{behind}
use Rattle.array_places.proofs.images.index_in.Given as goal

-- the members that are left, behind so many
abbrev pub invariant-loop-member : goal.invariant-loop-member
invariant-loop-member l = record {
  gone : l.before + length l.left ≡ length l.members;
  same : behind l.before (index_in l.image l.left) ≡ index_in l.image l.members;
}

abbrev pub decreases-loop-member : goal.decreases-loop-member
decreases-loop-member l = length l.left
