-- Extents as a list.
use Rattle.std.specs.Prelude.{ℕ, ℤ, List, [], ◌∷◌, map}
use Rattle.caf_base.specs.Arithmetic.{natural}
use Rattle.image_acts.specs.Places.{dims_in}
use Rattle.array_values.specs.declared.extents.Extents.{Extents}
use Rattle.array_values.specs.declared.extents.Extents.TheVariants as extents

abbrev pub listed : Extents → List ℕ
listed extents.Scalar = []
listed (extents.One k) = natural k ∷ []
listed (extents.Two k m) = natural k ∷ natural m ∷ []
listed (extents.Three k m n) = natural k ∷ natural m ∷ natural n ∷ []

-- the numbers of a place behind its first one, and the counts of dimensions
abbrev pub behind_start : List ℤ → List ℤ
behind_start [] = []
behind_start (s ∷ vs) = vs

abbrev pub dims_of : List ℤ → List ℕ
dims_of vs = map (λ d. d.0) (dims_in vs)
