use Rattle.std.proofs.Common.{◌≡◌, ◌-◌, ◌*◌, ◌^◌, ◌≤◌, min, length}
use Rattle.image_acts.specs.Places.{place_in, cells_of}
use Rattle.array_places.specs.Offsets.{counts_of}
use Rattle.array_places.proofs.place.cells_in.Given as goal

-- the cells of the dimensions so far, and those that are left
abbrev pub invariant-loop-count : goal.invariant-loop-count
invariant-loop-count l = record {
  small : l.cells ≤ 2 ^ 64 - 1;
  same : min (l.cells * counts_of l.left) (2 ^ 64 - 1) ≡ min (cells_of (place_in l.place)) (2 ^ 64 - 1);
}

abbrev pub decreases-loop-count : goal.decreases-loop-count
decreases-loop-count l = length l.left
