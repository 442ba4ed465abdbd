-- The images that cosubscripts of a coarray name, or the run fault that is found instead.
use Rattle.std.specs.Prelude.{ℕ, ℤ, Bool, ◌||◌, ◌==◌, not, nat_le, cond, List, length, Option, Some, None}
use Rattle.walk_theory.specs.Terms.{Found, found, at_fault}
use Rattle.image_acts.specs.Core.{Own}
use Rattle.image_acts.specs.Faults.{cobounds_fault, not_allocated, not_established, cells_fault, shape_fault}
use Rattle.image_acts.specs.Places.{Place, cells_of}
use Rattle.image_acts.specs.Statuses.{most_access_cells}
use Rattle.image_acts.specs.Teams.{cosubscripts_behind, index_of, member_at}
use Rattle.array_places.specs.Images.{cosubscript_found}

-- The member that an index names in a team in which the coarray is established or not, for an access to the section at
-- a place: no index is a fault where the section has cells.
abbrev pub selected : Bool → List ℕ → Place → ℕ → Found ℕ
selected established ms p i =
    cond (not (i == 0) || (cells_of p == 0)) (cond established (cond (nat_le (cells_of p) most_access_cells) (found (member_at ms i)) (at_fault cells_fault)) (at_fault not_established)) (at_fault cobounds_fault)

-- the image that cosubscripts name; a coarray that isn't allocated here is established in no team
abbrev pub owner_found : Option Own → Bool → List ℕ → List ℤ → Place → Found ℕ
owner_found None established ms ss p = at_fault not_established
owner_found (Some o) established ms ss p = selected established ms p (index_of o ss (length ms))

-- the index that they name among n images (IMAGE_INDEX, 16.9.97)
abbrev pub own_index : Option Own → List ℤ → ℕ → Found ℕ
own_index None ss n = at_fault not_allocated
own_index (Some o) ss n = found (index_of o ss n)

abbrev pub index_found : Option Own → ℕ → List ℤ → ℕ → Found ℕ
index_found o corank ss n = cond (length ss == corank) (own_index o ss n) (at_fault shape_fault)

-- the cosubscript with a number from 1 of the image that is so many images behind the first (THIS_IMAGE, 16.9.190)
abbrev pub own_cosubscript : Option Own → ℕ → ℤ → Found ℤ
own_cosubscript None n dim = at_fault not_allocated
own_cosubscript (Some o) n dim = cosubscript_found (cosubscripts_behind o.lowers o.extents n) dim
