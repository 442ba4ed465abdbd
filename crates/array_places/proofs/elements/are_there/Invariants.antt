use Rattle.std.proofs.Common.{◌≡◌, drop}
use Rattle.std.specs.Prelude.{is_some}
use Rattle.image_acts.specs.Places.{place_in, cells_of, offsets, elements_at}
use Rattle.array_places.proofs.elements.are_there.Given as goal

-- the cells that are left
abbrev pub invariant-loop-k : goal.invariant-loop-k
invariant-loop-k l = record {
  whole : l.cells ≡ cells_of (place_in l.place);
  same : is_some (elements_at (drop l.k (offsets (place_in l.place))) l.elements) ≡ is_some (elements_at (offsets (place_in l.place)) l.elements);
}
