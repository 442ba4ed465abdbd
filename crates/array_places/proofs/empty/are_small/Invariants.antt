use Rattle.std.proofs.Common.{◌≡◌, length}
use Rattle.image_acts.specs.Frames.{pairs_in}
use Rattle.image_acts.specs.Places.{are_small}
use Rattle.array_places.proofs.empty.are_small.Given as goal

-- it depends on the dimensions that are left
abbrev pub invariant-loop-lower : goal.invariant-loop-lower
invariant-loop-lower l = record { same : are_small (pairs_in l.left) ≡ are_small (pairs_in l.bounds) }

abbrev pub decreases-loop-lower : goal.decreases-loop-lower
decreases-loop-lower l = length l.left
