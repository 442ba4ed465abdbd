-- Arrays in one row of cells, each behind the one before it.
use Rattle.std.specs.Prelude.{ℕ, ◌+◌, ◌≡◌, ◌<◌, ◌≤◌, nat_lt, ℤ, pos, List, [], ◌∷◌, ◌++◌, take, drop, length, slice_get, Option, Some, None}
use Rattle.caf_base.specs.Arithmetic.{natural}
use Rattle.coarray_types.specs.Places.{size_of}
use Rattle.walk_theory.specs.Terms.{found}
use Rattle.image_acts.specs.Core.{Local}
use Rattle.image_acts.specs.Frames.{pairs_in}
use Rattle.image_acts.specs.Places.{Subscript, place_within, spread_of}
use Rattle.array_places.specs.Sections.{numbers_of}
use Rattle.local_arrays.specs.Arrays.{StandsAt, array_at}
use Rattle.local_arrays.specs.declared.bounds.Bounds.{Bounds}
use Rattle.local_arrays.specs.declared.reach.Reach.{Reach}
use Rattle.local_arrays.specs.declared.reach.Reach.TheVariants as reaches
use Rattle.local_arrays.specs.declared.row.Info.{Info}

-- arrays, how many there is room for, and how many cells
pub record Rowed : Type 0 where
  pub arrays : List (Option Local)
  pub most : ℕ
  pub size : ℕ

-- the pairs of bounds that are kept
abbrev pub pairs_of : Bounds → List (ℤ × ℤ)
pairs_of b = pairs_in (take b.len b.numbers)

-- an array with its elements, where it is there
abbrev pub local_with : Option Bounds → List ℤ → Option Local
local_with None xs = None
local_with (Some b) xs = Some (record { bounds = pairs_of b; elements = xs })

abbrev pub locals_of : List ℤ → List Info → List (Option Local)
locals_of cells [] = []
locals_of cells (i ∷ is) = local_with i.bounds (take i.size cells) ∷ locals_of (drop i.size cells) is

-- how many cells they have
abbrev pub total_size : List Info → ℕ
total_size [] = 0
total_size (i ∷ is) = i.size + total_size is

-- each where it begins, the first one at a start
abbrev pub placed : ℕ → List Info → List Info
placed s [] = []
placed s (i ∷ is) = record i { start = s } ∷ placed (s + i.size) is

-- three pairs at most, of which it is noted whether they have fewer than 2 ** 63 cells, an empty dimension counting as
-- one
pub record AreBounds (b : Bounds) : Type 0 where
  pub few : b.len ≤ 6
  pub noted : b.has_places ≡ nat_lt (spread_of (pairs_of b)) 9223372036854775808

-- what is there has such bounds, and what isn't has no cells
abbrev pub IsWell : Option Bounds → ℕ → Type 0
IsWell None n = n ≡ 0
IsWell (Some b) n = AreBounds b

-- these are the bounds of an array that has a cell for each place in them, and 64 bits hold the places
pub record Reaches (ps : List (ℤ × ℤ)) (bounds : Option Bounds) (size : ℕ) : Type 0 where
  pub there : Bounds
  pub is_there : bounds ≡ Some there
  pub pairs : pairs_of there ≡ ps
  pub few : spread_of ps < 9223372036854775808
  pub full : size_of ps ≡ size

-- what is noted of how elements are found at once is so
abbrev pub IsReach : Reach → Option Bounds → ℕ → Type 0
IsReach (reaches.One l u) b n = Reaches ((l, u) ∷ []) b n
IsReach (reaches.Two l u m v) b n = Reaches ((l, u) ∷ (m, v) ∷ []) b n
IsReach reaches.Other b n = Unit {0}

abbrev pub HasReach : Info → Type 0
HasReach i = IsReach i.reach i.bounds i.size

abbrev pub AreWell : List Info → Type 0
AreWell [] = Unit {0}
AreWell (i ∷ is) = IsWell i.bounds i.size × HasReach i × AreWell is

pub record Fit (cells : List ℤ) (infos : List Info) : Type 0 where
  pub placed : infos ≡ placed 0 infos
  pub full : total_size infos ≡ length cells
  pub well : AreWell infos
  pub small : length cells < 4294967296

-- the cells with others from a start on, in the place of so many
abbrev pub exchanged : ℕ → ℕ → List ℤ → List ℤ → List ℤ
exchanged start size ys cells = take start cells ++ (ys ++ drop (start + size) cells)

-- by these subscripts an element stands at an offset that an array with these bounds has a cell for
pub record IsOffset (ps : List (ℤ × ℤ)) (ss : List Subscript) (offset : ℕ) : Type 0 where
  pub stands : numbers_of (place_within ps ss) ≡ found (pos offset ∷ [])
  pub inside : offset < size_of ps

-- the cell of an element of an array
pub record IsSpot (infos : List Info) (k : ℕ) (offset : ℤ) (at : ℕ) : Type 0 where
  pub info : Info
  pub is_info : slice_get infos k ≡ Some info
  pub there : Bounds
  pub is_there : info.bounds ≡ Some there
  pub is_at : at ≡ info.start + natural offset
  pub inside : natural offset < info.size

-- the same of the element by these subscripts
pub record IsCell (cells : List ℤ) (infos : List Info) (k : ℕ) (ss : List Subscript) (at : ℕ) : Type 0 where
  pub offset : ℤ
  pub stands : StandsAt (array_at k (locals_of cells infos)) ss offset
  pub spot : IsSpot infos k offset at
