-- Array element order (ISO/IEC 1539-1:2018, 9.5.3.2).
use Rattle.std.specs.Prelude.{ℕ, ◌+◌, ◌*◌, ℤ, ◌≤ℤ◌, cond, List, [], ◌∷◌, ⊤}
use Rattle.std.specs.Int.RustNames.{int_lt}
use Rattle.coarray_types.specs.Distances.{distance}

-- an extent: how many values a subscript has between its bounds, none where the upper one is below the lower (5.4.6)
abbrev pub extent_of : ℤ × ℤ → ℕ
extent_of d = cond (int_lt d.1 d.0) 0 (distance d.0 d.1 + 1)

-- the size of an array with these bounds: the product of its extents (5.4.6)
abbrev pub size_of : List (ℤ × ℤ) → ℕ
size_of [] = 1
size_of (d ∷ ds) = extent_of d * size_of ds

-- as many subscripts as dimensions, each within its bounds
abbrev pub AllWithin : List (ℤ × ℤ) → List ℤ → Type 0
AllWithin [] [] = ⊤
AllWithin [] (s ∷ ss) = ⊥
AllWithin (d ∷ ds) [] = ⊥
AllWithin (d ∷ ds) (s ∷ ss) = (d.0 ≤ℤ s) × (s ≤ℤ d.1) × AllWithin ds ss

-- the subscript order value of an element (Table 9.1) less 1: the first subscript runs fastest
abbrev pub subscript_order : List (ℤ × ℤ) → List ℤ → ℕ
subscript_order [] ss = 0
subscript_order (d ∷ ds) [] = 0
subscript_order (d ∷ ds) (s ∷ ss) = distance d.0 s + extent_of d * subscript_order ds ss
