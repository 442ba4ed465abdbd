-- Numbers in decimal: their bytes, and that two numbers with one text are one.
use Rattle.std.proofs.Common.{◌≡◌, ℕ, suc, ◌<◌, ◌≤◌, ◌^◌, Bool, true, ◌||◌, nat_eq, nat_le, ℤ, pos, negsuc, List, []}
use Rattle.std.proofs.Common.{◌∷◌, length, drop, refl, ap, sym, ◌∙◌, arith, decimal, le-leb}
use Rattle.std.specs.List.{list_all}
use Rattle.std.specs.Str.Parse.{AllDigits, digits_value}
use Rattle.std.proofs.lemmas.Fmt.{decimal_is_IsNumeral_wide}
use Rattle.std.proofs.lemmas.Str.Parse.{digit_from_value}
use Rattle.caf_text.specs.Numbers.{decimal_text}
use Rattle.trace_forms.specs.Names.{is_digit_byte}
use Rattle.trace_forms.specs.Ranges.{IsHalf, IsSignedHalf, IsSigned}
use Rattle.trace_forms.proofs.Cuts.{and_both, all_within, differ_by}

-- a byte of a number in decimal
abbrev pub is_dec : ℕ → Bool
is_dec b = is_digit_byte b || nat_eq b 45

pub digit_dec : (b : ℕ) → is_digit_byte b ≡ true → is_dec b ≡ true
digit_dec b h = ap (λ t. t || nat_eq b 45) h

digits_digit : (ds : List ℕ) → AllDigits 10 ds → list_all is_digit_byte ds ≡ true
digits_digit [] d = refl
digits_digit (c ∷ cs) d =
    let k = digit_from_value c d.0 in
    let low : 48 ≤ c = omega arith in
    let high : c ≤ 57 = omega arith in
    and_both (is_digit_byte c) _ (and_both (nat_le 48 c) (nat_le c 57) (le-leb 48 c low) (le-leb c 57 high))
    (digits_digit cs d.1)

pub digits_of_number : (n : ℕ) → n < 10 ^ 64 → list_all is_digit_byte (decimal n) ≡ true
digits_of_number n h = digits_digit (decimal n) (decimal_is_IsNumeral_wide n h).0.1

pub some_of_number : (n : ℕ) → n < 10 ^ 64 → 0 < length (decimal n)
some_of_number n h = (decimal_is_IsNumeral_wide n h).0.0

pub same_number : (m n : ℕ) → m < 10 ^ 64 → n < 10 ^ 64 → decimal m ≡ decimal n → m ≡ n
same_number m n p q e = sym (decimal_is_IsNumeral_wide m p).1 ∙ ap (digits_value 10) e
    ∙ (decimal_is_IsNumeral_wide n q).1

-- with a sign
pub signed_dec : (z : ℤ) → IsSigned z → list_all is_dec (decimal_text z) ≡ true
signed_dec (pos n) h = all_within is_digit_byte is_dec digit_dec (decimal n) (digits_of_number n (omega arith))
signed_dec (negsuc n) h = all_within is_digit_byte is_dec digit_dec (decimal (suc n))
    (digits_of_number (suc n) (omega arith))

pub signed_some : (z : ℤ) → IsSigned z → 0 < length (decimal_text z)
signed_some (pos n) h = some_of_number n (omega arith)
signed_some (negsuc n) h = omega arith

minus_first : (n : ℕ) (ds : List ℕ) → n < 10 ^ 64 → decimal n ≡ 45 ∷ ds → ⊥
minus_first n ds h e = differ_by is_digit_byte (decimal n) (45 ∷ ds) (digits_of_number n h) refl e

pub same_signed : (y z : ℤ) → IsSigned y → IsSigned z → decimal_text y ≡ decimal_text z → y ≡ z
same_signed (pos m) (pos n) p q e = ap pos (same_number m n (omega arith) (omega arith) e)
same_signed (pos m) (negsuc n) p q e = absurd (minus_first m _ (omega arith) e)
same_signed (negsuc m) (pos n) p q e = absurd (minus_first n _ (omega arith) (sym e))
same_signed (negsuc m) (negsuc n) p q e =
    ap negsuc (omega (arith, same_number (suc m) (suc n) (omega arith) (omega arith) (ap (drop 1) e)))

pub half_signed : (z : ℤ) → IsSignedHalf z → IsSigned z
half_signed (pos n) h = omega arith
half_signed (negsuc n) h = omega arith

pub half_number : (n : ℕ) → IsHalf n → IsSigned (pos n)
half_number n h = omega arith
