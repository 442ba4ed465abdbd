-- Array values in piles, and what is done to them.
use Rattle.std.specs.Prelude.{ℕ, ℤ, pos, List, [], ◌∷◌, ◌++◌, map, length, reverse}
use Rattle.caf_base.specs.Arithmetic.{natural}
use Rattle.image_acts.specs.Core.{Array, row}
use Rattle.image_acts.specs.Operate.Stack.{behind}
use Rattle.image_stores.specs.Piles.{Pile, heaped}
use Rattle.array_values.specs.Extents.{listed}
use Rattle.array_values.specs.declared.extents.Extents.{Extents}

-- array values, the top one first; how many there is room for, and how many elements
pub record Values : Type 0 where
  pub arrays : List Array
  pub most : ℕ
  pub size : ℕ

-- of a pile the last element comes first
abbrev pub array_of : Pile Extents ℤ → Array
array_of p = record { extents = listed p.head; elements = reverse p.items }

abbrev pub arrays_in : List (Pile Extents ℤ) → List Array
arrays_in ps = map array_of ps

-- an array value of rank one with these elements
abbrev pub row_of : List ℤ → Array
row_of xs = row xs (length xs)

abbrev pub without_elements : Extents → Array
without_elements e = record { extents = listed e; elements = [] }

-- the extents and the elements of the top one
abbrev pub extents_on_top : List Array → List ℕ
extents_on_top [] = []
extents_on_top (x ∷ xs) = x.extents

abbrev pub elements_on_top : List Array → List ℤ
elements_on_top [] = []
elements_on_top (x ∷ xs) = x.elements

-- a number behind those
abbrev pub with_element : ℤ → List Array → List Array
with_element v [] = []
with_element v (x ∷ xs) = behind x (v ∷ []) ∷ xs

-- the elements of the top one behind those of the one beneath
abbrev pub merged_arrays : List Array → List Array
merged_arrays [] = []
merged_arrays (y ∷ []) = y ∷ []
merged_arrays (y ∷ x ∷ xs) = behind x y.elements ∷ xs

-- a lower bound of 1 and an upper one, put on the newest pile
abbrev pub with_bounds : ℤ → List (Pile Extents ℤ) → List (Pile Extents ℤ)
with_bounds n ps = heaped (pos (natural n)) (heaped (pos 1) ps)

-- a number behind the elements of the top one, whose extents stay as they are
abbrev pub lengthened : ℤ → List Array → List Array
lengthened v [] = []
lengthened v (x ∷ xs) = record x { elements = x.elements ++ v ∷ [] } ∷ xs
