-- The elements that section subscripts name, in the standard's words (ISO/IEC 1539-1:2018, 9.5.3.3).
use Rattle.std.specs.Prelude.{ℤ, pos, List, [], ◌∷◌, unwrap_or}
use Rattle.caf_base.specs.Arithmetic.{iterations}
use Rattle.coarray_types.specs.Sections.{Triplet}
use Rattle.image_acts.specs.Places.{Subscript, single, triplet, apart_by}

-- so many subscripts from the first to the last, this stride apart (9.5.3.3.2); fewer than two aren't apart
abbrev pub spread_over : (first last stride : ℤ) → Triplet
spread_over first last stride = record { first = first; count = iterations first last stride; stride = apart_by (iterations first last stride) stride }

-- the subscripts of a dimension with these bounds: a missing part of a triplet is the lower bound, the upper bound, 1
abbrev pub triplet_of : ℤ × ℤ → Subscript → Triplet
triplet_of b (single s) = record { first = s; count = 1; stride = pos 1 }
triplet_of b (triplet first last stride) = spread_over (unwrap_or first b.0) (unwrap_or last b.1) (unwrap_or stride (pos 1))

abbrev pub triplets_of : List (ℤ × ℤ) → List Subscript → List Triplet
triplets_of [] ss = []
triplets_of (b ∷ bs) [] = []
triplets_of (b ∷ bs) (s ∷ ss) = triplet_of b s ∷ triplets_of bs ss
