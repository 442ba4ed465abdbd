-- The coarrays of an image: those that are allocated here, and their cells.
use Rattle.std.specs.Prelude.{ℕ, ◌+◌, ◌-◌, ℤ, pos, min, Bool, true, false, ◌&&◌, not, nat_eq, nat_le, int_le, cond, List, [], ◌∷◌, map, take, drop, Option, Some, None, is_some, slice_get, slice_set}
use Rattle.std.specs.Option.{option_map}
use Rattle.std.specs.List.{list_all}
use Rattle.caf_base.specs.declared.value.Kind.TheVariants as kinds
use Rattle.caf_base.specs.Arithmetic.{fits_kind, natural}
use Rattle.coarray_types.specs.Places.{size_of}
use Rattle.image_acts.specs.Core.{Own}
use Rattle.image_acts.specs.Frames.{joined, pairs_in}
use Rattle.image_acts.specs.Owning.{lowers_in, extents_in}
use Rattle.image_acts.specs.Statuses.{most_cells}
use Rattle.image_acts.specs.Operate.Allocating.{bounds_size}
use Rattle.coarray_tables.specs.declared.shape.Shape.{Shape}

-- coarrays in declared order, each where it is allocated here, and how many coarray cells are in use
pub record Owned : Type 0 where
  pub coarrays : List (Option Own)
  pub cells : ℕ

-- a coarray, where it is allocated here
abbrev pub own_at : List (Option Own) → ℕ → Option Own
own_at os k = joined (slice_get os k)

-- with it, or with none, and so many coarray cells in use
abbrev pub with_own : Owned → ℕ → Option Own → ℕ → Owned
with_own a k o n = record { coarrays = slice_set a.coarrays k o; cells = n }

-- what is kept of a coarray, and of all of them
abbrev pub own_of : Shape → Own
own_of s = record { bounds = pairs_in s.bounds; lowers = lowers_in s.cobounds; extents = extents_in s.cobounds; team = s.team }

abbrev pub owns_of : List (Option Shape) → List (Option Own)
owns_of ss = map (option_map own_of) ss

-- whether it was allocated in this team
abbrev pub is_of_team : Option Own → ℕ → Bool
is_of_team None t = false
is_of_team (Some o) t = nat_eq o.team t

-- no upper cobound is below its lower one
abbrev pub are_cobounds : List ℤ → Bool
are_cobounds [] = true
are_cobounds (l ∷ []) = true
are_cobounds (l ∷ u ∷ vs) = int_le l u && are_cobounds vs

-- Whether a coarray may be allocated with the bounds of its rank and cobounds behind them: it isn't allocated here, and
-- all of them are numbers of kind 4.
abbrev pub may_be_made : Option Own → ℕ → List ℤ → Bool
may_be_made o rank vs = not (is_some o) && (list_all (fits_kind kinds.I4) vs && are_cobounds (drop (bounds_size rank) vs))

-- the last of some numbers, or this one
abbrev pub last_from : ℤ → List ℤ → ℤ
last_from d [] = d
last_from d (l ∷ ls) = last_from l ls

-- With a coarray of these bounds and cobounds that was allocated in a team; none where its rank or corank is too great,
-- or more coarray cells would be in use than there may be.
abbrev pub noted_in : Owned → ℕ → List (ℤ × ℤ) → List ℤ → ℕ → Option Owned
noted_in a k bs cs t =
    cond (nat_le (a.cells + size_of bs) most_cells) (Some (with_own a k (Some (record { bounds = bs; lowers = lowers_in cs; extents = extents_in cs; team = t })) (a.cells + size_of bs))) None

abbrev pub noted : Owned → (k rank corank : ℕ) → List ℤ → ℕ → Option Owned
noted a k rank corank vs t = cond (nat_le rank 3 && nat_le corank 3) (noted_in a k (pairs_in (take (bounds_size rank) vs)) (drop (bounds_size rank) vs) t) None

-- without one that is there
abbrev pub freed_own : Owned → ℕ → Option Own → Option Owned
freed_own a k None = None
freed_own a k (Some o) = Some (with_own a k None (a.cells - size_of o.bounds))

abbrev pub freed : Owned → ℕ → Option Owned
freed a k = freed_own a k (own_at a.coarrays k)

-- a sum of cells of a plan with so many more; one cell too many stands for any number that is too great
abbrev pub sum_of_cells : ℤ → ℕ → ℤ
sum_of_cells n m = pos (min (natural n + m) (most_cells + 1))
