use Rattle.std.proofs.Common.{◌≡◌, length}
use Rattle.std.specs.Prelude.{slice_get}
use Rattle.image_acts.specs.Frames.{pairs_in}
use Rattle.array_places.proofs.bounds.pair_at.Given as goal

-- the dimensions that are left
abbrev pub invariant-loop-lower : goal.invariant-loop-lower
invariant-loop-lower l = slice_get (pairs_in l.left) l.number ≡ slice_get (pairs_in l.bounds) l.initial.number

abbrev pub decreases-loop-lower : goal.decreases-loop-lower
decreases-loop-lower l = length l.left
