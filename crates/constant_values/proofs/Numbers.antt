-- Numbers that fit, and powers.
use Rattle.std.proofs.Common.{◌≡◌, ℕ, zero, suc, ◌*◌, ◌%◌, ◌^◌, ◌<◌, ◌≤◌, Bool, true, false, not, refl, sym, ap, ◌∙◌, arith}
use Rattle.std.specs.Prelude.{ℤ, pos, negsuc, neg_ℤ, ◌*ℤ◌, cond, ◌==◌, FitsSigned, unsigned_abs}
use Rattle.std.specs.Int.{w64, w128, int_pow}
use Rattle.std.proofs.Math.Nat.{pow-succ'}
use Rattle.std.proofs.lemmas.Int.{fits_signed_mul}
use Rattle.std.proofs.lemmas.Grind.{common_steps}
use Rattle.checked_tree.specs.declared.data.DataType.{DataType}
use Rattle.checked_tree.specs.declared.data.DataType.TheVariants as types
use Rattle.caf_base.specs.declared.value.Kind.TheVariants.{I4, I8, L4}
use Rattle.rule_definitions.specs.Constants.{in_type, power_of, no_constant}

-- a product of two numbers of 64 bits fits 128
pub product_fits : (a b : ℤ) → FitsSigned w64 a → FitsSigned w64 b → FitsSigned w128 (a *ℤ b)
product_fits a b f g =
    let m : unsigned_abs a ≤ 2 ^ 63 = grind (arith, common_steps) in
    let n : unsigned_abs b ≤ 2 ^ 63 = grind (arith, common_steps) in
    let k : 2 ^ 63 * 2 ^ 63 < 2 ^ 127 = omega arith in
    fits_signed_mul w128 a b (2 ^ 63) (2 ^ 63) m n k

-- a number that 128 bits can't hold is of no type
pub outside : (y : DataType) (z : ℤ) → (FitsSigned w128 z → ⊥) → in_type y z ≡ no_constant
outside (types.Intrinsic I4) z h = grind (arith, common_steps)
outside (types.Intrinsic I8) z h = grind (arith, common_steps)
outside (types.Intrinsic L4) z h = refl
outside types.Team z h = refl
outside types.Event z h = refl
outside types.Lock z h = refl

pow_more : (a n : ℕ) → a ^ suc n ≡ a * a ^ n
pow_more a n = pow-succ' a n

pos_power : (a n : ℕ) → power_of (pos a) n ≡ pos (a ^ n)
pos_power a zero = grind (arith, common_steps)
pos_power a (suc n) = ap (λ p. pos a *ℤ p) (pos_power a n) ∙ ap pos (sym (pow_more a n))

-- the sign of a power
abbrev signed : Bool → ℕ → ℤ
signed b m = cond b (pos m) (neg_ℤ (pos m))

signed_more : (b : Bool) (a m : ℕ) → negsuc a *ℤ signed b m ≡ signed (not b) (suc a * m)
signed_more true a m = grind (arith, common_steps)
signed_more false a m = grind (arith, common_steps)

parity : (n : ℕ) → (suc n % 2 == 0) ≡ not (n % 2 == 0)
parity n = grind (arith, common_steps)

neg_power : (a n : ℕ) → power_of (negsuc a) n ≡ signed (n % 2 == 0) (suc a ^ n)
neg_power a zero = grind (arith, common_steps)
neg_power a (suc n) =
    ap (λ p. negsuc a *ℤ p) (neg_power a n)
    ∙ signed_more (n % 2 == 0) a (suc a ^ n)
    ∙ ap (λ b. signed b (suc a * suc a ^ n)) (sym (parity n))
    ∙ ap (signed (suc n % 2 == 0)) (sym (pow_more (suc a) n))

pub power_is : (x : ℤ) (n : ℕ) → power_of x n ≡ int_pow x n
power_is (pos a) n = pos_power a n
power_is (negsuc a) n = neg_power a n
