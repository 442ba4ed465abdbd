-- The value of digits that are read one by one.
use Rattle.std.proofs.Common.{◌≡◌, ℕ, ◌+◌, ◌-◌, ◌*◌, ◌<◌, ◌≤◌, true, List, [], ◌∷◌, length, get_or, take, drop, ap, ◌∙◌, arith, add-one}
use Rattle.std.specs.Char.{digit_value}
use Rattle.std.specs.List.{prefix_len}
use Rattle.std.specs.Str.Parse.{digits_value_after}
use Rattle.std.proofs.Math.Seq.{drop-cons}
use Rattle.std.proofs.lemmas.Bool.Decides.{nat_tests}
use Rattle.std.proofs.lemmas.List.{get_or-take, length-take}
use Rattle.std.proofs.lemmas.List.Sums.{prefix_len_passes}
use Rattle.fortran_tokens.specs.Bytes.{is_digit}

-- the value of a digit
pub digit_is : (d : ℕ) → is_digit d ≡ true → (48 ≤ d) × (d ≤ 57) × (digit_value d ≡ d - 48)
digit_is d h = (let r = range d h in (r.0, r.1, value d r.0 r.1))
  where
    range : (c : ℕ) → is_digit c ≡ true → (48 ≤ c) × (c ≤ 57)
    range c h = grind (arith, nat_tests)

    value : (c : ℕ) → 48 ≤ c → c ≤ 57 → digit_value c ≡ c - 48
    value c low high = grind (arith, nat_tests)

-- more digits make no value smaller
grows : (v : ℕ) (ds : List ℕ) → v ≤ digits_value_after 10 v ds
grows v [] = omega arith
grows v (d ∷ ds) = let next = grows (v * 10 + digit_value d) ds in omega arith

-- the value behind one more digit
pub one_digit : (v : ℕ) (ds : List ℕ) (i : ℕ) → i < length ds → is_digit (get_or ds i 0) ≡ true → digits_value_after 10 v (drop i ds) ≡ digits_value_after 10 (v * 10 + (get_or ds i 0 - 48)) (drop (i + 1) ds)
one_digit v ds i h d =
    let here : drop i ds ≡ get_or ds i 0 ∷ drop (i + 1) ds = rw add-one (drop-cons ds i 0 h) in
    let digit = digit_is (get_or ds i 0) d in
    ap (digits_value_after 10 v) here ∙ ap (λ n. digits_value_after 10 (v * 10 + n) (drop (i + 1) ds)) digit.2

-- and it is no greater than that of all
pub next_small : (v : ℕ) (ds : List ℕ) (i n : ℕ) → i < length ds → is_digit (get_or ds i 0) ≡ true → digits_value_after 10 v (drop i ds) ≡ n → v * 10 + (get_or ds i 0 - 48) ≤ n
next_small v ds i n h d e =
    let same = one_digit v ds i h d in
    let more = grows (v * 10 + (get_or ds i 0 - 48)) (drop (i + 1) ds) in
    omega arith

-- the digits at the front are digits
pub digits_front : (text : List ℕ) (n i : ℕ) → n ≡ prefix_len is_digit text → i < length (take n text) → is_digit (get_or (take n text) i 0) ≡ true
digits_front text n i e h =
    let size = length-take n text in
    let below : i < n = omega arith in
    ap is_digit (get_or-take n text i 0 below) ∙ prefix_len_passes is_digit text i 0 (omega arith)
