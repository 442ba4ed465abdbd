-- What falls between two counts, as numbers.
use Rattle.std.proofs.Common.{◌≡◌, ℕ, zero, suc, ◌+◌, ◌-◌, ◌*◌, ◌<◌, ◌≤◌, List, ◌∷◌, sym, subst, arith}
use Rattle.std.proofs.Math.Nat.{mul-pos, mul_assoc, suc-mul, mul-lt-mul_of_pos_right}
use Rattle.walk_theory.specs.Good.{ways, power}

pub power_pos : (b k : ℕ) → 0 < b → 0 < power b k
power_pos b zero h = omega arith
power_pos b (suc k) h = mul-pos h (power_pos b k h)

-- a way on: the innermost digit falls
pub on_less : (size deep p q : ℕ) (rs : List ℕ) → p < q → p ≤ size → ways size (q ∷ rs) * power (size + 2) deep < ways size (p ∷ rs) * power (size + 2) deep
on_less size deep p q rs h l =
    let x = ways size rs * (size + 2) in
    let d : x + (suc size - q) < x + (suc size - p) = omega arith in
    mul-lt-mul_of_pos_right d (power_pos (size + 2) deep (omega arith))

-- a call: the digit of the caller falls, and one of less worth comes behind it
pub call_less : (size deep p q : ℕ) (rs : List ℕ) → p ≤ size → ways size (q ∷ (p + 1) ∷ rs) * power (size + 2) deep < ways size (p ∷ rs) * power (size + 2) (suc deep)
call_less size deep p q rs l =
    let b = size + 2 in
    let x = ways size rs * b in
    let y = x + (suc size - (p + 1)) in
    let up : x + (suc size - p) ≡ suc y = omega arith in
    let z = y * b in
    let s : suc y * b ≡ z + b = suc-mul y b in
    let d : z + (suc size - q) < z + b = omega arith in
    let e : y * b + (suc size - q) < (x + (suc size - p)) * b = subst (λ k. y * b + (suc size - q) < k * b) (sym up) (subst (λ k. y * b + (suc size - q) < k) (sym s) d) in
    subst (λ k. (y * b + (suc size - q)) * power b deep < k) (mul_assoc (x + (suc size - p)) b (power b deep)) (mul-lt-mul_of_pos_right e (power_pos b deep (omega arith)))

-- a return: the digit of the body is taken away
pub back_less : (size deep p r : ℕ) (rs : List ℕ) → p ≤ size → ways size (r ∷ rs) * power (size + 2) (suc deep) < ways size (p ∷ r ∷ rs) * power (size + 2) deep
back_less size deep p r rs l =
    let b = size + 2 in
    let y = ways size rs * b + (suc size - r) in
    let z = y * b in
    let d : z < z + (suc size - p) = omega arith in
    subst (λ k. k < (z + (suc size - p)) * power b deep) (mul_assoc y b (power b deep)) (mul-lt-mul_of_pos_right d (power_pos b deep (omega arith)))

-- something is left where the place is in the code
pub some_left : (size deep p : ℕ) (rs : List ℕ) → p ≤ size → 0 < ways size (p ∷ rs) * power (size + 2) deep
some_left size deep p rs l =
    let x = ways size rs * (size + 2) in
    let d : 0 < x + (suc size - p) = omega arith in
    mul-pos d (power_pos (size + 2) deep (omega arith))
