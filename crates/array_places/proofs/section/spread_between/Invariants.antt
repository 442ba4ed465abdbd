use Rattle.std.proofs.Common.{◌≡◌, ◌-◌, ◌*◌, ◌^◌, ◌≤◌, min, length}
use Rattle.image_acts.specs.Frames.{pairs_in}
use Rattle.image_acts.specs.Places.{spread_of}
use Rattle.array_places.proofs.section.spread_between.Given as goal

-- the cells of the dimensions so far, and those that are left
abbrev pub invariant-loop-lower : goal.invariant-loop-lower
invariant-loop-lower l = record {
  small : l.cells ≤ 2 ^ 128 - 1;
  same : min (l.cells * spread_of (pairs_in l.left)) (2 ^ 128 - 1) ≡ min (spread_of (pairs_in l.bounds)) (2 ^ 128 - 1);
}

abbrev pub decreases-loop-lower : goal.decreases-loop-lower
decreases-loop-lower l = length l.left
