use Rattle.std.proofs.Common.{◌≡◌, ◌≤◌, drop, length}
use Rattle.image_acts.specs.Places.{place_in, cells_of, offsets, with_elements_at}
use Rattle.array_places.proofs.elements.put.Given as goal

-- the cells and the values that are left
abbrev pub invariant-loop-value : goal.invariant-loop-value
invariant-loop-value l = record {
  whole : l.cells ≡ cells_of (place_in l.place);
  within : l.k ≤ l.cells;
  same : with_elements_at (drop l.k (offsets (place_in l.place))) l.left l.elements ≡ with_elements_at (offsets (place_in l.place)) l.values l.initial.elements;
}

abbrev pub decreases-loop-value : goal.decreases-loop-value
decreases-loop-value l = length l.left
