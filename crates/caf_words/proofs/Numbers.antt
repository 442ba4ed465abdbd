-- Numbers in decimal, as `parse` reads them.
use Rattle.std.proofs.Common.{◌≡◌, ◌≢◌, ℕ, zero, suc, ◌<◌, ◌≤◌, ◌^◌, List, [], ◌∷◌, length, get_or, None, Some, Result, Ok, Err, IfSome, IfNone, refl, sym, ap, ◌∙◌, subst, inl, inr, arith}
use Rattle.std.specs.Fmt.{decimal}
use Rattle.std.specs.Result.{result_ok, OkIff}
use Rattle.std.specs.Str.Parse.{AllDigits, digits_value, ParsesUnsigned}
use Rattle.std.proofs.lemmas.Fmt.{decimal_digit, first_decimal, decimal-digits_value, parse-decimal}
use Rattle.std.proofs.lemmas.Option.{get_or_from_slice_get}
use Rattle.std.specs.Prelude.{slice_get, ◌⊎◌}
use Rattle.std.proofs.lemmas.Str.Parse.{IsNumeralModel, numerals_by_value, tells_digits, parse_plain}

pub digits : IsNumeralModel (AllDigits 10) (digits_value 10)
digits = numerals_by_value (AllDigits 10) tells_digits

-- a number's first byte is a digit
pub first_is_digit : (n : ℕ) → n < 2 ^ 64 → 48 ≤ get_or (decimal n) 0 0
first_is_digit zero small = let e = decimal_digit 0 (omega arith) in rw e (omega arith)
first_is_digit (suc n) small = omega (arith, first_decimal (suc n) (omega arith) small)

-- a number has no leading zero, but for 0 itself
pub no_leading_zero : (n : ℕ) → n < 2 ^ 64 → get_or (decimal n) 0 0 ≡ 48 → length (decimal n) ≡ 1
no_leading_zero zero small begins = let e = decimal_digit 0 (omega arith) in rw e refl
no_leading_zero (suc n) small begins = absurd (omega (arith, first_decimal (suc n) (omega arith) small))

-- what `parse` read is a number in decimal, where no plus and no leading zero stands in front
pub parsed : {E : Type 0} (word : List ℕ) (first : ℕ) (r : Result ℕ E) → Some first ≡ slice_get word 0 → first ≢ 43 → ((first ≡ 48) × (length word ≤ 1)) ⊎ (first ≢ 48) → ParsesUnsigned 32 10 word r → IfSome (result_ok r) (λ n. word ≡ decimal n)
parsed word first (Err e) begins plus zero_first parses = tt
parsed {E} word first (Ok n) begins plus zero_first parses =
    let head : get_or word 0 0 ≡ first = get_or_from_slice_get word 0 first 0 (sym begins) in
    let p : OkIff {E = E} (Ok n) (AllDigits 10 word × (0 < length word) × (digits_value 10 word < 2 ^ 32)) (digits_value 10 word) = parse_plain digits {E = E} 32 word (Ok n) parses (λ e. plus (sym head ∙ e)) in
    let lead : get_or word 0 0 ≡ 48 → length word ≡ 1 = λ e. elim zero_first [ inl short ↦ omega (arith, short.1, p.0.1) | inr other ↦ absurd (other (sym head ∙ e)) ] in
    let below : digits_value 10 word < 2 ^ 64 = omega (arith, p.0.2) in
    sym (decimal-digits_value digits word p.0.0 p.0.1 lead below) ∙ ap decimal (sym p.1)

-- what `parse` didn't read is no number in decimal
pub not_parsed : {E : Type 0} (word : List ℕ) (r : Result ℕ E) → ParsesUnsigned 32 10 word r → IfNone (result_ok r) ((n : ℕ) → n < 2 ^ 32 → word ≢ decimal n)
not_parsed word (Ok n) parses = tt
not_parsed {E} word (Err e) parses = λ n small is.
    let r : Err e ≡ Ok n = parse-decimal {E = E} 32 n word (Err e) small (omega arith) is parses in cc

-- an empty word is no number
pub empty_no_number : (word : List ℕ) → None ≡ slice_get word 0 → (n : ℕ) → n < 2 ^ 32 → word ≢ decimal n
empty_no_number word empty n small is =
    let some : 48 ≤ get_or word 0 0 = subst (λ w. 48 ≤ get_or w 0 0) (sym is) (first_is_digit n (omega arith)) in
    empty_low word empty some
  where
    empty_low : (word : List ℕ) → None ≡ slice_get word 0 → 48 ≤ get_or word 0 0 → ⊥
    empty_low [] empty some = omega arith
    empty_low (c ∷ cs) empty some = cc

-- a word with a plus in front, or with a leading zero, is no number
pub odd_no_number : (word : List ℕ) (first : ℕ) → Some first ≡ slice_get word 0 → (first ≡ 43) ⊎ ((first ≡ 48) × (1 < length word)) → (n : ℕ) → n < 2 ^ 32 → word ≢ decimal n
odd_no_number word first begins odd n small is =
    let head : get_or word 0 0 ≡ first = get_or_from_slice_get word 0 first 0 (sym begins) in
    let low : 48 ≤ get_or word 0 0 = subst (λ w. 48 ≤ get_or w 0 0) (sym is) (first_is_digit n (omega arith)) in
    let lead : get_or word 0 0 ≡ 48 → length word ≡ 1 = subst (λ w. get_or w 0 0 ≡ 48 → length w ≡ 1) (sym is) (no_leading_zero n (omega arith)) in
    elim odd [ inl plus ↦ omega arith | inr zero_first ↦ omega (arith, lead (head ∙ zero_first.0), zero_first.1) ]
