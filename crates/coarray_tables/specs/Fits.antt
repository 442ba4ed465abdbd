-- Which tables of coarrays a store can be made of.
use Rattle.std.specs.Prelude.{ℕ, ◌+◌, ℤ, pos, ◌+ℤ◌, ◌-ℤ◌, Bool, true, false, ◌&&◌, ◌||◌, nat_le, int_le, List, [], ◌∷◌, length}
use Rattle.caf_base.specs.declared.value.Kind.TheVariants as kinds
use Rattle.caf_base.specs.Arithmetic.{fits_kind}
use Rattle.image_acts.specs.Statuses.{most_cells}
use Rattle.image_acts.specs.Teams.{has_none}
use Rattle.image_code.specs.declared.tables.Coarray.{Coarray}
use Rattle.coarray_tables.specs.Start.{first_own, own_size}

-- as many coextents as lower cobounds but the last, none empty, and all cobounds numbers of kind 4
abbrev pub are_first_cobounds : List ℤ → List ℤ → Bool
are_first_cobounds [] es = false
are_first_cobounds (l ∷ ls) [] = fits_kind kinds.I4 l && has_none ls
are_first_cobounds (l ∷ ls) (e ∷ es) = fits_kind kinds.I4 l && (int_le (pos 1) e && (fits_kind kinds.I4 ((l +ℤ e) -ℤ pos 1) && are_first_cobounds ls es))

abbrev pub is_fit : Coarray → Bool
is_fit c = c.is_allocatable || (nat_le (length c.bounds) 3 && (nat_le (length c.lower_cobounds) 3 && are_first_cobounds c.lower_cobounds c.coextents))

-- each is, and with so many cells more they have no more than an image may have
abbrev pub are_fit : ℕ → List Coarray → Bool
are_fit n [] = true
are_fit n (c ∷ cs) = is_fit c && (nat_le (n + own_size (first_own c)) most_cells && are_fit (n + own_size (first_own c)) cs)
