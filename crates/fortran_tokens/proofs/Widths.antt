-- The value of digits that are read one by one.
use Rattle.std.proofs.Common.{◌≡◌, ℕ, ◌+◌, ◌-◌, ◌*◌, ◌<◌, ◌≤◌, true, nat_lt, List, [], ◌∷◌, length, get_or, drop, ap, sym, ◌∙◌, arith, add-one}
use Rattle.std.specs.Char.{digit_value}
use Rattle.std.specs.Str.Parse.{digits_value_after}
use Rattle.std.proofs.Math.Seq.{drop-cons}
use Rattle.std.proofs.lemmas.Bool.{lt-ltb}
use Rattle.std.proofs.lemmas.Bool.Decides.{nat_tests}
use Rattle.fortran_tokens.specs.Bytes.{is_digit}

-- the value of a digit
digit_is : (d : ℕ) → is_digit d ≡ true → digit_value d ≡ d - 48
digit_is d h = value d (range d h).0 (range d h).1
  where
    range : (c : ℕ) → is_digit c ≡ true → (48 ≤ c) × (c ≤ 57)
    range c h = grind (arith, nat_tests)

    value : (c : ℕ) → 48 ≤ c → c ≤ 57 → digit_value c ≡ c - 48
    value c low high = grind (arith, nat_tests)

-- more digits make no value smaller
grows : (v : ℕ) (ds : List ℕ) → v ≤ digits_value_after 10 v ds
grows v [] = omega arith
grows v (d ∷ ds) = let next = grows (v * 10 + digit_value d) ds in omega arith

-- a value that is too wide stays so
wide_now : (v : ℕ) (ds : List ℕ) → 9223372036854775807 < v → true ≡ nat_lt 9223372036854775807 (digits_value_after 10 v ds)
wide_now v ds h = let more = grows v ds in sym (lt-ltb 9223372036854775807 (digits_value_after 10 v ds) (omega arith))

-- the value behind one more digit
one_digit : (v : ℕ) (ds : List ℕ) (i : ℕ) → i < length ds → is_digit (get_or ds i 0) ≡ true → digits_value_after 10 v (drop i ds) ≡ digits_value_after 10 (v * 10 + (get_or ds i 0 - 48)) (drop (i + 1) ds)
one_digit v ds i h d =
    let here : drop i ds ≡ get_or ds i 0 ∷ drop (i + 1) ds = rw add-one (drop-cons ds i 0 h) in
    ap (digits_value_after 10 v) here ∙ ap (λ n. digits_value_after 10 (v * 10 + n) (drop (i + 1) ds)) (digit_is (get_or ds i 0) d)

-- one that is above a tenth of the limit is too wide with one more digit
pub wide_next : (v : ℕ) (ds : List ℕ) (i : ℕ) → i < length ds → 922337203685477580 < v → true ≡ nat_lt 9223372036854775807 (digits_value_after 10 v (drop i ds))
wide_next v ds i h k =
    let here : drop i ds ≡ get_or ds i 0 ∷ drop (i + 1) ds = rw add-one (drop-cons ds i 0 h) in
    wide_now (v * 10 + digit_value (get_or ds i 0)) (drop (i + 1) ds) (omega arith) ∙ ap (λ u. nat_lt 9223372036854775807 (digits_value_after 10 v u)) (sym here)

-- a value that one more digit makes too wide
pub wide_digit : (v : ℕ) (ds : List ℕ) (i : ℕ) → i < length ds → is_digit (get_or ds i 0) ≡ true → 9223372036854775807 < v * 10 + (get_or ds i 0 - 48) → true ≡ nat_lt 9223372036854775807 (digits_value_after 10 v (drop i ds))
wide_digit v ds i h d k =
    wide_now (v * 10 + (get_or ds i 0 - 48)) (drop (i + 1) ds) k ∙ ap (nat_lt 9223372036854775807) (sym (one_digit v ds i h d))
