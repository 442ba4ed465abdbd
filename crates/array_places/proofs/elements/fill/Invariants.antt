use Rattle.std.proofs.Common.{◌≡◌, drop, length, replicate}
use Rattle.image_acts.specs.Places.{place_in, cells_of, offsets, with_elements_at}
use Rattle.array_places.proofs.elements.fill.Given as goal

-- the cells that are left
abbrev pub invariant-loop-k : goal.invariant-loop-k
invariant-loop-k l = record {
  whole : l.cells ≡ cells_of (place_in l.place);
  same : with_elements_at (drop l.k (offsets (place_in l.place))) (replicate (length (drop l.k (offsets (place_in l.place)))) l.value) l.elements
      ≡ with_elements_at (offsets (place_in l.place)) (replicate (length (offsets (place_in l.place))) l.value) l.initial.elements;
}
