-- The coarrays of an image at the start of a program (ISO/IEC 1539-1:2018, 5.3.5).
use Rattle.std.specs.Prelude.{ℕ, ℤ, pos, ◌≡◌, ◌≤◌, ◌+ℤ◌, ◌-ℤ◌, false, cond, List, [], ◌∷◌, map, length, sum_by, Option, Some, None}
use Rattle.coarray_types.specs.Coplaces.{HasCobounds}
use Rattle.coarray_types.specs.Places.{size_of}
use Rattle.image_acts.specs.Core.{Own}
use Rattle.image_code.specs.declared.tables.Coarray.{Coarray}
use Rattle.coarray_tables.specs.Owns.{Owned}

-- a static coarray is allocated in the initial team
abbrev pub first_own : Coarray → Option Own
first_own c = cond c.is_allocatable None (Some (record { bounds = c.bounds; lowers = c.lower_cobounds; extents = c.coextents; team = 1 }))

-- how many cells a coarray has here
abbrev pub own_size : Option Own → ℕ
own_size None = 0
own_size (Some o) = size_of o.bounds

abbrev pub first_owned : List Coarray → Owned
first_owned cs = record { coarrays = map first_own cs; cells = sum_by own_size (map first_own cs) }

-- a static coarray has three dimensions and three codimensions at most, whose cobounds are numbers of kind 4
pub record HasFew (c : Coarray) : Type 0 where
  pub rank : length c.bounds ≤ 3
  pub corank : length c.lower_cobounds ≤ 3
  pub cobounds : HasCobounds c.lower_cobounds c.coextents

abbrev pub IsFew : Coarray → Type 0
IsFew c = c.is_allocatable ≡ false → HasFew c

abbrev pub AreFew : List Coarray → Type 0
AreFew [] = Unit {0}
AreFew (c ∷ cs) = IsFew c × AreFew cs

-- lower cobounds and coextents as cobounds: a lower and an upper one for each codimension, and a lower one for the last
abbrev pub cobound_numbers : List ℤ → List ℤ → List ℤ
cobound_numbers [] es = []
cobound_numbers (l ∷ ls) [] = l ∷ []
cobound_numbers (l ∷ ls) (e ∷ es) = l ∷ ((l +ℤ e) -ℤ pos 1) ∷ cobound_numbers ls es
