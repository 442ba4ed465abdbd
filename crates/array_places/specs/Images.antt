-- Images by cosubscripts.
use Rattle.std.specs.Prelude.{ℕ, zero, suc, ◌+◌, ◌*◌, ◌-◌, ◌^◌, min, ℤ, cond, List, Option, Some, None, slice_get}
use Rattle.coarray_types.specs.Coplaces.{image_order}
use Rattle.caf_base.specs.Arithmetic.{natural}
use Rattle.walk_theory.specs.Terms.{Found, at_fault}
use Rattle.image_acts.specs.Faults.{bounds_fault}
use Rattle.image_acts.specs.Teams.{are_within_cobounds}
use Rattle.array_places.specs.Bounds.{in_kind_4}

-- the place from 0 of the image that cosubscripts name, behind so many images and so many apart, as far as 64 bits hold
-- it; nothing where they aren't within cobounds
abbrev pub order_found : (order weight : ℕ) → List ℤ → List ℤ → List ℤ → Option ℕ
order_found order weight ls es ss = cond (are_within_cobounds ls es ss) (Some (min (order + weight * image_order ls es ss) (2 ^ 64 - 1))) None

-- the cosubscript with a number from 1, of kind 4
abbrev pub numbered_in : List ℤ → ℕ → Option ℤ
numbered_in ss zero = None
numbered_in ss (suc i) = slice_get ss i

abbrev pub of_kind_4 : Option ℤ → Found ℤ
of_kind_4 None = at_fault bounds_fault
of_kind_4 (Some v) = in_kind_4 v

abbrev pub cosubscript_found : List ℤ → ℤ → Found ℤ
cosubscript_found ss dim = of_kind_4 (numbered_in ss (natural dim))
