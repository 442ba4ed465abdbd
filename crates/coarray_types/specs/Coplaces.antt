-- The images that cosubscripts name: array element order over the cobounds, the last coextent without a limit
-- (ISO/IEC 1539-1:2018, 9.6, and IMAGE_INDEX in 16.9).
use Rattle.std.specs.Prelude.{ℕ, ◌≡◌, ◌+◌, ◌*◌, ◌<◌, ℤ, pos, ◌+ℤ◌, ◌-ℤ◌, ◌≤ℤ◌, List, [], ◌∷◌, FitsSigned}
use Rattle.std.specs.Int.{w32}
use Rattle.std.specs.Int.RustNames.{unsigned_abs}
use Rattle.coarray_types.specs.Distances.{distance}

-- lower cobounds, and the coextents of all but the last of one to more codimensions: none is empty, and all cobounds
-- are numbers of kind 4
abbrev pub HasCobounds : List ℤ → List ℤ → Type 0
HasCobounds [] es = ⊥
HasCobounds (l ∷ ls) [] = FitsSigned w32 l × (ls ≡ [])
HasCobounds (l ∷ ls) (e ∷ es) = FitsSigned w32 l × (pos 1 ≤ℤ e) × FitsSigned w32 ((l +ℤ e) -ℤ pos 1) × HasCobounds ls es

-- as many cosubscripts as codimensions, each within its cobounds, and the last not below its lower one
abbrev pub AllWithinCobounds : List ℤ → List ℤ → List ℤ → Type 0
AllWithinCobounds [] es cs = ⊥
AllWithinCobounds (l ∷ ls) es [] = ⊥
AllWithinCobounds (l ∷ ls) [] (c ∷ cs) = (l ≤ℤ c) × (ls ≡ []) × (cs ≡ [])
AllWithinCobounds (l ∷ ls) (e ∷ es) (c ∷ cs) = (l ≤ℤ c) × (distance l c < unsigned_abs e) × AllWithinCobounds ls es cs

-- the subscript order value over cobounds less 1: the first cosubscript runs fastest; one more is the image index (9.6)
abbrev pub image_order : List ℤ → List ℤ → List ℤ → ℕ
image_order [] es cs = 0
image_order (l ∷ ls) es [] = 0
image_order (l ∷ ls) [] (c ∷ cs) = distance l c
image_order (l ∷ ls) (e ∷ es) (c ∷ cs) = distance l c + unsigned_abs e * image_order ls es cs

-- the cosubscripts name the image with this index, from 1
pub record Names (lowers extents subs : List ℤ) (image : ℕ) : Type 0 where
  pub within : AllWithinCobounds lowers extents subs
  pub index : image ≡ image_order lowers extents subs + 1
