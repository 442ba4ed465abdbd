-- Numbers of a kind that operators, functions and replies make.
use Rattle.std.proofs.Common.{◌≡◌, ℕ, zero, suc, ◌≤◌, ℤ, pos, negsuc, ◌+ℤ◌, ◌≤ℤ◌, ◌<ℤ◌, Bool, true, false, cond, List, [], ◌∷◌, map, replicate, refl, arith}
use Rattle.std.specs.Prelude.{int_le, int_lt, int_div, int_rem, nat_abs, Option, None, Some}
use Rattle.std.specs.List.{list_all}
use Rattle.std.specs.Ordering.{int_eq}
use Rattle.std.specs.Int.Signed.{lt_z_yes, lt_z_no}
use Rattle.std.proofs.lemmas.Float.{T_from_true, T_from_false}
use Rattle.std.proofs.lemmas.Int.{ints}
use Rattle.std.proofs.lemmas.Bool.{and_from, and_parts}
use lib.Signed.{mag, mag_rem}
use Rattle.trace_theory.specs.Entries.{Each}
use Rattle.walk_theory.specs.Terms.{Found, found, at_fault}
use Rattle.caf_base.specs.declared.value.Kind.{Kind}
use Rattle.caf_base.specs.declared.value.Kind.TheVariants as kinds
use Rattle.caf_base.specs.declared.value.Value.{Value}
use Rattle.caf_base.specs.declared.value.Value.TheVariants as values
use Rattle.caf_base.specs.Arithmetic.{is_within, fits_kind, huge_of, number_of, value_of, power_of, with_sign_of, lesser, greater_of}
use Rattle.object_rules.specs.Folds.{is_of_kind}
use Rattle.image_acts.specs.Faults.{overflow, divide_by_zero}
use Rattle.image_acts.specs.Operate.Operators.{in_kind, divided, quotient, raised}
use Rattle.kind_walks.specs.Kinds.{IsOf}

-- ---- bounds
le_so : (a b : ℤ) → a ≤ℤ b → int_le a b ≡ true
le_so a b h = grind (arith, ints)

so_le : (a b : ℤ) → int_le a b ≡ true → a ≤ℤ b
so_le a b h = grind (arith, ints)

abbrev Bounded : ℕ → ℤ → Type 0
Bounded m v = (negsuc m ≤ℤ v) × (v ≤ℤ pos m)

bounds : (m : ℕ) (v : ℤ) → is_within (negsuc m) (pos m) v ≡ true → Bounded m v
bounds m v h = (let p = and_parts (int_le (negsuc m) v) (int_le v (pos m)) h in (so_le (negsuc m) v p.0, so_le v (pos m) p.1))

bounded : (m : ℕ) (v : ℤ) → Bounded m v → is_within (negsuc m) (pos m) v ≡ true
bounded m v h = and_from (int_le (negsuc m) v) (int_le v (pos m)) (le_so (negsuc m) v h.0) (le_so v (pos m) h.1)

of_mag : (m : ℕ) (v : ℤ) → mag v ≤ m → Bounded m v
of_mag m (pos a) h = (omega (arith, ints), omega (arith, ints))
of_mag m (negsuc a) h = (omega (arith, ints), omega (arith, ints))

mag_of : (m : ℕ) (v : ℤ) → Bounded m v → mag v ≤ m
mag_of m (pos a) h = (let x = h.1 in omega (arith, ints))
mag_of m (negsuc a) h = (let x = h.0 in omega (arith, ints))

-- ---- a remainder, and one with the sign of the divisor
rest_bounded : (m : ℕ) (v w : ℤ) → Bounded m v → Bounded m (int_rem v w)
rest_bounded m v w h = of_mag m (int_rem v w) (let p : mag (int_rem v w) ≤ mag v = mag_rem v w in let q : mag v ≤ m = mag_of m v h in omega arith)

sum_below : (m : ℕ) (r w : ℤ) → Bounded m r → Bounded m w → r <ℤ pos 0 → pos 0 ≤ℤ w → Bounded m (r +ℤ w)
sum_below m r w g h a b = (let x = g.0 in let y = h.1 in (omega (arith, ints), omega (arith, ints)))

sum_above : (m : ℕ) (r w : ℤ) → Bounded m r → Bounded m w → pos 0 ≤ℤ r → w <ℤ pos 0 → Bounded m (r +ℤ w)
sum_above m r w g h a b = (let x = g.1 in let y = h.0 in (omega (arith, ints), omega (arith, ints)))

signed_bounded : (m : ℕ) (r w : ℤ) → Bounded m r → Bounded m w → Bounded m (with_sign_of w r)
signed_bounded m r w g h = by_signs (int_eq r (pos 0)) (int_lt r (pos 0)) (int_lt w (pos 0)) refl refl
  where
    by_signs : (b c d : Bool) → int_lt r (pos 0) ≡ c → int_lt w (pos 0) ≡ d → Bounded m (cond b r (cond c (cond d r (r +ℤ w)) (cond d (r +ℤ w) r)))
    by_signs true c d e f = g
    by_signs false true true e f = g
    by_signs false true false e f = sum_below m r w g h (lt_z_yes (T_from_true (int_lt r (pos 0)) e)) (lt_z_no (T_from_false (int_lt w (pos 0)) f))
    by_signs false false true e f = sum_above m r w g h (lt_z_no (T_from_false (int_lt r (pos 0)) e)) (lt_z_yes (T_from_true (int_lt w (pos 0)) f))
    by_signs false false false e f = g

-- ---- numbers of a kind
pub zero_of : (k : Option Kind) → IsOf k (pos 0)
zero_of None = tt
zero_of (Some kinds.I4) = refl
zero_of (Some kinds.I8) = refl
zero_of (Some kinds.L4) = refl

pub huge_fits : (k : Kind) → IsOf (Some k) (huge_of k)
huge_fits kinds.I4 = refl
huge_fits kinds.I8 = refl
huge_fits kinds.L4 = refl

-- a number that counts
pub small_fits : (m : ℕ) → m ≤ 2147483647 → IsOf (Some kinds.I4) (pos m)
small_fits m h = bounded 2147483647 (pos m) (of_mag 2147483647 (pos m) h)

-- a number of kind 4 is one of kind 8
pub wider : (v : ℤ) → fits_kind kinds.I4 v ≡ true → fits_kind kinds.I8 v ≡ true
wider v h = bounded 9223372036854775807 v (of_mag 9223372036854775807 v (let p : mag v ≤ 2147483647 = mag_of 2147483647 v (bounds 2147483647 v h) in omega arith))

pub rest_fits : (k : Kind) (v w : ℤ) → fits_kind k v ≡ true → fits_kind k (int_rem v w) ≡ true
rest_fits kinds.I4 v w h = bounded 2147483647 (int_rem v w) (rest_bounded 2147483647 v w (bounds 2147483647 v h))
rest_fits kinds.I8 v w h = bounded 9223372036854775807 (int_rem v w) (rest_bounded 9223372036854775807 v w (bounds 9223372036854775807 v h))
rest_fits kinds.L4 v w h = refl

pub signed_fits : (k : Kind) (r w : ℤ) → fits_kind k r ≡ true → fits_kind k w ≡ true → fits_kind k (with_sign_of w r) ≡ true
signed_fits kinds.I4 r w g h = bounded 2147483647 (with_sign_of w r) (signed_bounded 2147483647 r w (bounds 2147483647 r g) (bounds 2147483647 w h))
signed_fits kinds.I8 r w g h = bounded 9223372036854775807 (with_sign_of w r) (signed_bounded 9223372036854775807 r w (bounds 9223372036854775807 r g) (bounds 9223372036854775807 w h))
signed_fits kinds.L4 r w g h = refl

one_of : (k : Kind) (b : Bool) (v w : ℤ) → fits_kind k v ≡ true → fits_kind k w ≡ true → fits_kind k (cond b v w) ≡ true
one_of k true v w g h = g
one_of k false v w g h = h

pub lesser_fits : (k : Kind) (v w : ℤ) → fits_kind k v ≡ true → fits_kind k w ≡ true → fits_kind k (lesser v w) ≡ true
lesser_fits k v w g h = one_of k (int_le v w) v w g h

pub greater_fits : (k : Kind) (v w : ℤ) → fits_kind k v ≡ true → fits_kind k w ≡ true → fits_kind k (greater_of v w) ≡ true
greater_fits k v w g h = one_of k (int_le v w) w v h g

-- ---- what an operator finds is of its kind
abbrev pub FindsOf : Option Kind → Found ℤ → Type 0
FindsOf k (found z) = IsOf k z
FindsOf k (at_fault m) = Unit {0}

pub kept_in : (k : Kind) (z : ℤ) → FindsOf (Some k) (in_kind k z)
kept_in k z = by_test (fits_kind k z) refl
  where
    by_test : (b : Bool) → fits_kind k z ≡ b → FindsOf (Some k) (cond b (found z) (at_fault overflow))
    by_test true e = e
    by_test false e = tt

cond_finds : (k : Option Kind) (b : Bool) (x y : Found ℤ) → FindsOf k x → FindsOf k y → FindsOf k (cond b x y)
cond_finds k true x y g h = g
cond_finds k false x y g h = h

pub divided_finds : (k : Option Kind) (w : ℤ) (x : Found ℤ) → FindsOf k x → FindsOf k (divided w x)
divided_finds k w x h = cond_finds k (int_eq w (pos 0)) (at_fault divide_by_zero) x tt h

pub quotient_finds : (k : Kind) (v w : ℤ) → FindsOf (Some k) (quotient k v w)
quotient_finds k v w = divided_finds (Some k) w (in_kind k (int_div v w)) (kept_in k (int_div v w))

pub raised_finds : (k : Kind) (v w : ℤ) → FindsOf (Some k) (raised k v w)
raised_finds k v w =
    let z = power_of v (nat_abs w) in
    let inverse = cond (fits_kind k z) (quotient k (pos 1) z) (at_fault overflow) in
    cond_finds (Some k) (int_lt w (pos 0)) inverse (in_kind k z) (cond_finds (Some k) (fits_kind k z) (quotient k (pos 1) z) (at_fault overflow) (quotient_finds k (pos 1) z) tt) (kept_in k z)

-- ---- values
pub value_fits : (k : Kind) (v : ℤ) → fits_kind k v ≡ true → is_of_kind k (value_of k v) ≡ true
value_fits kinds.I4 v h = h
value_fits kinds.I8 v h = h
value_fits kinds.L4 v h = refl

pub number_fits : (k : Kind) (v : Value) → is_of_kind k v ≡ true → fits_kind k (number_of v) ≡ true
number_fits kinds.I4 (values.Int v) h = h
number_fits kinds.I4 (values.Bool b) h = absurd (cc)
number_fits kinds.I8 (values.Int v) h = h
number_fits kinds.I8 (values.Bool b) h = absurd (cc)
number_fits kinds.L4 v h = refl

pub values_fit : (k : Kind) (vs : List ℤ) → Each (IsOf (Some k)) vs → list_all (is_of_kind k) (map (value_of k) vs) ≡ true
values_fit k [] h = refl
values_fit k (v ∷ vs) h = and_from (is_of_kind k (value_of k v)) (list_all (is_of_kind k) (map (value_of k) vs)) (value_fits k v h.0) (values_fit k vs h.1)

pub value_repeats : (k : Kind) (m : ℕ) (v : ℤ) → fits_kind k v ≡ true → list_all (is_of_kind k) (replicate m (value_of k v)) ≡ true
value_repeats k zero v h = refl
value_repeats k (suc m) v h = and_from (is_of_kind k (value_of k v)) (list_all (is_of_kind k) (replicate m (value_of k v))) (value_fits k v h) (value_repeats k m v h)

pub numbers_fit : (k : Kind) (vs : List Value) → list_all (is_of_kind k) vs ≡ true → Each (IsOf (Some k)) (map number_of vs)
numbers_fit k [] h = tt
numbers_fit k (v ∷ vs) h = (let p = and_parts (is_of_kind k v) (list_all (is_of_kind k) vs) h in (number_fits k v p.0, numbers_fit k vs p.1))
