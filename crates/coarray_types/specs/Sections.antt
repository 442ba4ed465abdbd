-- Sections by subscript triplets (ISO/IEC 1539-1:2018, 9.5.3.3): which elements of an array they have, in which order,
-- and the dimensions of their spans.
use Rattle.std.specs.Prelude.{ℕ, ◌*◌, ◌==◌, cond, ℤ, pos, ◌*ℤ◌, List, [], ◌∷◌, ◌++◌, map}
use Rattle.caf_base.specs.Spans.{row_of}
use Rattle.coarray_types.specs.Places.{extent_of}

-- a subscript triplet: the first subscript, how many there are, and the stride from each to the next; a single
-- subscript is a triplet of one
pub record Triplet : Type 0 where
  pub first : ℤ
  pub count : ℕ
  pub stride : ℤ

-- the first subscript of each dimension
abbrev pub firsts_of : List Triplet → List ℤ
firsts_of [] = []
firsts_of (t ∷ ts) = t.first ∷ firsts_of ts

-- each of these subscripts before each of these lists, the subscripts running fastest
abbrev pub crossed : List ℤ → List (List ℤ) → List (List ℤ)
crossed row [] = []
crossed row (ss ∷ more) = map (λ s. s ∷ ss) row ++ crossed row more

-- the subscript lists of the section's elements, in array element order
abbrev pub elements_of : List Triplet → List (List ℤ)
elements_of [] = [] ∷ []
elements_of (t ∷ ts) = crossed (row_of t.count t.stride t.first) (elements_of ts)

-- a dimension of a span before others: none where it has one subscript
abbrev pub with_dim : ℕ → ℤ → List (ℕ × ℤ) → List (ℕ × ℤ)
with_dim count step dims = cond (count == 1) dims ((count, step) ∷ dims)

-- the dimensions of a section's span: the stride, in cells, where neighbours of the first dimension are so many cells
-- apart
abbrev pub dims_of : ℕ → List (ℤ × ℤ) → List Triplet → List (ℕ × ℤ)
dims_of apart [] ts = []
dims_of apart (d ∷ ds) [] = []
dims_of apart (d ∷ ds) (t ∷ ts) = with_dim t.count (pos apart *ℤ t.stride) (dims_of (apart * extent_of d) ds ts)
