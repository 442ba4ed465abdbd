-- The place of an element of an array of one dimension.
use Rattle.std.proofs.Common.{◌≡◌, ◌+◌, ◌*◌, ◌<◌, ◌^◌, ℤ, pos, ◌+ℤ◌, ◌-ℤ◌, ◌*ℤ◌, ◌≤ℤ◌, true, List, [], ◌∷◌, take, reverse, ap, sym, ◌∙◌, arith}
use Rattle.std.specs.Prelude.{Option, Some, None, int_le, unsigned_abs, max, FitsSigned}
use Rattle.std.specs.Int.{w64}
use Rattle.std.proofs.lemmas.Bool.{and_parts, lt-ltb}
use Rattle.std.proofs.lemmas.Float.{T_from_true}
use Rattle.std.specs.Int.Signed.{le_z_yes}
use Rattle.std.proofs.lemmas.Int.{ints}
use Rattle.caf_base.specs.Arithmetic.{is_within}
use Rattle.coarray_types.specs.Places.{extent_of}
use Rattle.walk_theory.specs.Terms.{found}
use Rattle.image_acts.specs.Core.{Local}
use Rattle.image_acts.specs.Places.{digits, place_within, single, subscripts_in}
use Rattle.array_places.specs.Sections.{numbers_of}
use Rattle.local_arrays.specs.Arrays.{bounds_in, place_found}

between : (l u v : ℤ) → is_within l u v ≡ true → (l ≤ℤ v) × (v ≤ℤ u)
between l u v h = (let p = and_parts (int_le l v) (int_le v u) h in (le_z_yes (T_from_true (int_le l v) p.0), le_z_yes (T_from_true (int_le v u) p.1)))

extent_is : (l u : ℤ) → l ≤ℤ u → extent_of (l, u) ≡ unsigned_abs (u -ℤ l) + 1
extent_is l u h = grind (arith, ints)

pub distance_fits : (l u s : ℤ) → FitsSigned w64 s → is_within l u s ≡ true → unsigned_abs (u -ℤ l) < 2 ^ 62 → FitsSigned w64 (s -ℤ l)
distance_fits l u s f h n = (let b = between l u s h in omega (arith, ints, b.0, b.1))

module _ (l u s : ℤ) (h : is_within l u s ≡ true) (n : unsigned_abs (u -ℤ l) < 2 ^ 62) where
  ordered : l ≤ℤ u
  ordered = (let b = between l u s h in omega (arith, ints, b.0, b.1))

  narrow : max 1 (extent_of (l, u)) * 1 < 9223372036854775808
  narrow = (let e = extent_is l u ordered in omega arith)

  start_is : (pos 1 *ℤ (s -ℤ l)) +ℤ pos 0 ≡ s -ℤ l
  start_is = omega (arith, ints)

  pub near_place : (o : ℤ) → o ≡ s -ℤ l → numbers_of (place_within ((l, u) ∷ []) (single s ∷ [])) ≡ found (o ∷ [])
  near_place o e = rw (lt-ltb (max 1 (extent_of (l, u)) * 1) 9223372036854775808 narrow, h) (ap (λ t. found (t ∷ [])) (start_is ∙ sym e))

-- the place of an element by one subscript, of an array with these bounds
pub one_place : (o : Option Local) (bs : List (ℤ × ℤ)) (v z : ℤ) (vs us : List ℤ) → bounds_in o ≡ Some bs → us ≡ v ∷ vs → numbers_of (place_within bs (single v ∷ [])) ≡ found (z ∷ [])
    → numbers_of (place_found o (subscripts_in (digits 1) (reverse (take 1 us)))) ≡ found (z ∷ [])
one_place None bs v z vs us h i g = absurd (cc)
one_place (Some l) bs v z vs us h i g = (let k : l.bounds ≡ bs = cc in ap (λ t. numbers_of (place_within l.bounds (subscripts_in (digits 1) (reverse (take 1 t))))) i ∙ ap (λ t. numbers_of (place_within t (single v ∷ []))) k ∙ g)
