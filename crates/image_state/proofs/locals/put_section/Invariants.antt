use Rattle.std.proofs.Common.{◌≡◌, ◌+◌, ◌<◌, ◌∷◌, ℤ, List, length, take}
use Rattle.std.specs.Prelude.{Some}
use Rattle.image_acts.specs.Core.{elements_in}
use Rattle.image_acts.specs.Places.{elements_at, extents_of, offsets, place_in}
use Rattle.image_state.proofs.locals.put_section.Given as goal

-- the first elements stand in the array value that was begun
abbrev pub invariant-loop-k : goal.invariant-loop-k
invariant-loop-k l = record {
  most : l.arrays.most ≡ l.fn.arrays.most;
  size : l.arrays.size ≡ l.fn.arrays.size;
  some : 0 < length l.arrays.arrays;
  total : elements_in l.arrays.arrays ≡ elements_in l.fn.arrays.arrays + l.k;
  same : (vs : List ℤ) → elements_at (offsets (place_in l.place)) l.elements ≡ Some vs → l.arrays.arrays ≡ record { extents = extents_of (place_in l.place); elements = take l.k vs } ∷ l.fn.arrays.arrays;
}
