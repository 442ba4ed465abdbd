-- Sizes, extents and bounds, or the fault that is found instead.
use Rattle.std.specs.Prelude.{ℕ, zero, suc, ℤ, pos, ◌==◌, cond, List, Option, Some, None, slice_get, Result, Ok, Err}
use Rattle.caf_base.specs.declared.value.Kind.TheVariants as kinds
use Rattle.caf_base.specs.Arithmetic.{fits_kind, natural}
use Rattle.coarray_types.specs.Places.{extent_of, size_of}
use Rattle.walk_theory.specs.Terms.{Found, found, at_fault}
use Rattle.image_acts.specs.Faults.{overflow, bounds_fault}
use Rattle.image_acts.specs.Frames.{pairs_in}

abbrev pub as_found : {V : Type 0} → Result V ℕ → Found V
as_found (Ok v) = found v
as_found (Err k) = at_fault k

-- a number of kind 4
abbrev pub in_kind_4 : ℤ → Found ℤ
in_kind_4 v = cond (fits_kind kinds.I4 v) (found v) (at_fault overflow)

-- SIZE of an array with these bounds (16.9.177)
abbrev pub size_found : List ℤ → Found ℤ
size_found vs = in_kind_4 (pos (size_of (pairs_in vs)))

-- the dimension with a number from 1
abbrev pub numbered : List (ℤ × ℤ) → ℕ → Option (ℤ × ℤ)
numbered bs zero = None
numbered bs (suc i) = slice_get bs i

-- what there is along a dimension, of kind 4
abbrev pub found_of : (ℤ × ℤ → ℤ) → Option (ℤ × ℤ) → Found ℤ
found_of f None = at_fault bounds_fault
found_of f (Some b) = in_kind_4 (f b)

abbrev pub along : (ℤ × ℤ → ℤ) → List ℤ → ℤ → Found ℤ
along f vs dim = found_of f (numbered (pairs_in vs) (natural dim))

-- the bounds of a dimension without elements are 1 and 0 (16.9.109, 16.9.196)
abbrev pub lower_of : ℤ × ℤ → ℤ
lower_of b = cond (extent_of b == 0) (pos 1) b.0

abbrev pub upper_of : ℤ × ℤ → ℤ
upper_of b = cond (extent_of b == 0) (pos 0) b.1

abbrev pub length_of : ℤ × ℤ → ℤ
length_of b = pos (extent_of b)
