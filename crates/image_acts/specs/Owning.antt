-- The coarrays that are allocated on this image.
use Rattle.std.specs.Prelude.{ℕ, ℤ, pos, ◌+ℤ◌, ◌-ℤ◌, List, [], ◌∷◌, Option, slice_get, slice_set}
use Rattle.image_acts.specs.Core.{Core, Own}
use Rattle.image_acts.specs.Frames.{joined}

-- a coarray, where it is allocated here
abbrev pub own_in : Core → ℕ → Option Own
own_in c k = joined (slice_get c.coarrays k)

-- the core with it, or with none, and so many coarray cells in use
abbrev pub with_own : ℕ → Option Own → ℕ → Core → Core
with_own k o n c = record c { coarrays = slice_set c.coarrays k o; coarray_cells = n }

-- Cobounds stand as pairs of a lower and an upper one, and a lower one for the last. The lower cobounds of them, and
-- the coextents of all but the last (ISO/IEC 1539-1:2018, 5.4.7).
abbrev pub lowers_in : List ℤ → List ℤ
lowers_in [] = []
lowers_in (l ∷ []) = l ∷ []
lowers_in (l ∷ u ∷ vs) = l ∷ lowers_in vs

abbrev pub extents_in : List ℤ → List ℤ
extents_in [] = []
extents_in (l ∷ []) = []
extents_in (l ∷ u ∷ vs) = ((u -ℤ l) +ℤ pos 1) ∷ extents_in vs
