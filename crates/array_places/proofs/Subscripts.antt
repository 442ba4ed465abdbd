-- Subscripts of a dimension, which are within its bounds.
use Rattle.std.proofs.Common.{◌≡◌, ◌∙◌, ℕ, zero, suc, ◌+◌, ◌-◌, ◌*◌, ◌/◌, ◌^◌, ◌<◌, ◌≤◌, ℤ, pos, negsuc, neg_ℤ, ◌+ℤ◌, ◌-ℤ◌, ◌*ℤ◌, ◌≤ℤ◌, true, false, ◌&&◌, refl, ap, arith}
use Rattle.std.specs.Prelude.{int_le, int_div, unsigned_abs, FitsSigned}
use Rattle.std.specs.Int.{w64, w128}
use Rattle.std.specs.Int.Signed.{le_z_yes}
use Rattle.std.specs.Ordering.{int_eq}
use Rattle.std.proofs.lemmas.Float.{T_from_true}
use Rattle.std.proofs.lemmas.Int.{ints, unsigned_abs-mul}
use Rattle.std.proofs.Math.Nat.{div-mul-le_self, mul-le-mul_right, mul-suc, suc-mul}
use Rattle.caf_base.specs.Arithmetic.{is_within, natural}
use Rattle.coarray_types.specs.Places.{extent_of}
use Rattle.image_acts.proofs.Images.{left_one, right_one}

-- so many times the divisor are no more than the dividend
natural_neg : (k : ℕ) → natural (neg_ℤ (pos k)) ≡ 0
natural_neg zero = refl
natural_neg (suc k) = refl

pub times_near : (x s : ℤ) → natural (int_div x s) * unsigned_abs s ≤ unsigned_abs x
times_near (pos a) (pos b) = div-mul-le_self a b
times_near (pos a) (negsuc b) = rw (natural_neg (a / suc b)) (omega arith)
times_near (negsuc a) (pos b) = rw (natural_neg (suc a / b)) (omega arith)
times_near (negsuc a) (negsuc b) = div-mul-le_self (suc a) (suc b)

pub last_fits : (f v s : ℤ) (n : ℕ) → FitsSigned w64 f → n * unsigned_abs s ≤ 2 ^ 65 → v ≡ pos (n - 1) *ℤ s → FitsSigned w128 (f +ℤ v)
last_fits f v s n g h e =
    let a : unsigned_abs v ≡ (n - 1) * unsigned_abs s = ap unsigned_abs e ∙ unsigned_abs-mul (pos (n - 1)) s in
    let b : (n - 1) * unsigned_abs s ≤ n * unsigned_abs s = mul-le-mul_right (unsigned_abs s) (omega arith) in
    omega (arith, ints)

between : (l u v : ℤ) → is_within l u v ≡ true → (l ≤ℤ v) × (v ≤ℤ u)
between l u v h = (le_z_yes (T_from_true (int_le l v) (left_one (int_le l v) (int_le v u) h)), le_z_yes (T_from_true (int_le v u) (right_one (int_le l v) (int_le v u) h)))

pub extent_is : (l u : ℤ) → l ≤ℤ u → extent_of (l, u) ≡ unsigned_abs (u -ℤ l) + 1
extent_is l u h = grind (arith, ints)

apart_within : (l u f y : ℤ) → l ≤ℤ f → f ≤ℤ u → l ≤ℤ (f +ℤ y) → (f +ℤ y) ≤ℤ u → unsigned_abs y ≤ unsigned_abs (u -ℤ l)
apart_within l u f y a b c d = omega (arith, ints)

some_stride : (s : ℤ) → int_eq s (pos 0) ≡ false → 0 < unsigned_abs s
some_stride (pos zero) e = absurd (cc)
some_stride (pos (suc n)) e = omega arith
some_stride (negsuc n) e = omega arith

pub grows : (a b : ℕ) → 0 < b → a ≤ a * b
grows a zero h = absurd (omega arith)
grows a (suc b) h = omega (arith, mul-suc a b)

pub grows_right : (a b : ℕ) → 0 < a → b ≤ a * b
grows_right zero b h = absurd (omega arith)
grows_right (suc a) b h = omega (arith, suc-mul a b)

module _ (l u f s : ℤ) (n : ℕ) (h : (is_within l u f && is_within l u (f +ℤ (pos (n - 1) *ℤ s))) ≡ true) where
  pub first_inside : (l ≤ℤ f) × (f ≤ℤ u)
  first_inside = between l u f (left_one (is_within l u f) (is_within l u (f +ℤ (pos (n - 1) *ℤ s))) h)

  pub all_within : (n - 1) * unsigned_abs s + 1 ≤ extent_of (l, u)
  all_within =
      let a = first_inside in
      let b = between l u (f +ℤ (pos (n - 1) *ℤ s)) (right_one (is_within l u f) (is_within l u (f +ℤ (pos (n - 1) *ℤ s))) h) in
      let o : l ≤ℤ u = omega (arith, ints, a.0, a.1) in
      let e = extent_is l u o in
      let d = apart_within l u f (pos (n - 1) *ℤ s) a.0 a.1 b.0 b.1 in
      let m : unsigned_abs (pos (n - 1) *ℤ s) ≡ (n - 1) * unsigned_abs s = unsigned_abs-mul (pos (n - 1)) s in
      omega arith

  pub few_within : int_eq s (pos 0) ≡ false → n ≤ extent_of (l, u)
  few_within e =
      let a = all_within in
      let b = grows (n - 1) (unsigned_abs s) (some_stride s e) in
      omega arith

  pub near_within : 1 < n → unsigned_abs s ≤ extent_of (l, u)
  near_within g =
      let a = all_within in
      let b = grows_right (n - 1) (unsigned_abs s) (omega arith) in
      omega arith
