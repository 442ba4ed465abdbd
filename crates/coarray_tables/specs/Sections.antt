-- Elements and sections of coarrays.
use Rattle.std.specs.Prelude.{ℕ, ℤ, List, Option, Some, None}
use Rattle.walk_theory.specs.Terms.{Found, found}
use Rattle.image_acts.specs.Core.{Own}
use Rattle.image_acts.specs.Places.{Place, no_place, place_within, subscripts_in, triplets}

-- the place of an element or section of a coarray; where it isn't allocated here it is one cell in each dimension
abbrev pub own_place : Option Own → List ℕ → List ℤ → Found Place
own_place None ds vs = found (no_place (triplets ds))
own_place (Some o) ds vs = place_within o.bounds (subscripts_in ds vs)
