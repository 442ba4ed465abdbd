-- Counts of dimensions.
use Rattle.std.proofs.Common.{◌≡◌, ◌<◌, ◌≤◌, ℤ, List, [], ◌∷◌, length, refl, arith}
use Rattle.image_acts.specs.Places.{place_in, extents_of}
use Rattle.array_values.specs.Extents.{behind_start, dims_of}

pub none_left : (vs : List ℤ) → length vs < 2 → dims_of vs ≡ []
none_left [] h = refl
none_left (v ∷ []) h = refl
none_left (v ∷ w ∷ vs) h = absurd (omega arith)

pub extents_are : (place : List ℤ) → dims_of (behind_start place) ≡ extents_of (place_in place)
extents_are [] = refl
extents_are (s ∷ vs) = refl

pub fewer : (place : List ℤ) → length place ≤ 7 → length (behind_start place) ≤ 6
fewer [] h = omega arith
fewer (s ∷ vs) h = omega arith
