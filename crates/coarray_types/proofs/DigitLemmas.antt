-- A number as a digit r below e, and the rest q behind it: r + e * q.
use Rattle.std.proofs.Common.{◌≡◌, ℕ, ◌+◌, ◌*◌, ◌/◌, ◌%◌, ◌^◌, ◌<◌, ◌≤◌, arith, sym, ◌∙◌, ap}
use Rattle.std.proofs.lemmas.Nat.{mul-add-lt, mod-mul-add, div-mul-add}
use Rattle.std.proofs.Math.Nat.{div-lt_iff_lt-mul}

-- it is below e * c, where the rest is below c
pub digit-below : (r e q c : ℕ) → r < e → q < c → r + e * q < e * c
digit-below r e q c hr hq = let h : q * e + r < e * c = mul-add-lt q e r c hq hr in omega (arith, h)

-- the digit is its remainder
pub digit_is : (r e q : ℕ) → r < e → (r + e * q) % e ≡ r
digit_is r e q h =
    let s : r + e * q ≡ q * e + r = omega arith in
    ap (λ n. n % e) s ∙ mod-mul-add q e r h

-- the rest is its quotient
pub rest_is : (r e q : ℕ) → r < e → (r + e * q) / e ≡ q
rest_is r e q h =
    let s : r + e * q ≡ q * e + r = omega arith in
    ap (λ n. n / e) s ∙ div-mul-add q e r h

-- two such numbers that are the same have the same digit
pub digit_same : (r s e q p : ℕ) → r < e → s < e → r + e * q ≡ s + e * p → r ≡ s
digit_same r s e q p hr hs h = sym (digit_is r e q hr) ∙ (ap (λ n. n % e) h ∙ digit_is s e p hs)

-- and the same rest
pub rest_same : (r s e q p : ℕ) → r < e → s < e → r + e * q ≡ s + e * p → q ≡ p
rest_same r s e q p hr hs h = sym (rest_is r e q hr) ∙ (ap (λ n. n / e) h ∙ rest_is s e p hs)

-- a number is its remainder as the digit, and its quotient as the rest
pub digit_split : (n e : ℕ) → 0 < e → n % e + e * (n / e) ≡ n
digit_split n e h = omega arith

-- the quotient of a number below e * c is below c
pub rest-below : (n e c : ℕ) → 0 < e → n < e * c → n / e < c
rest-below n e c h b = let k : n < c * e = omega arith in (div-lt_iff_lt-mul h).1 k

-- of 64 bits, where the extent is at most 2^32 and the rest fits 32 bits
pub joined_fits : (r e q : ℕ) → r < e → e ≤ 2 ^ 32 → q < 2 ^ 32 → r + e * q < 2 ^ 64
joined_fits r e q hr he hq = let h : r + e * q < e * 2 ^ 32 = digit-below r e q (2 ^ 32) hr hq in omega (arith, h)
