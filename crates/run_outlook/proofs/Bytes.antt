-- How many images of a set there are in a part of a word.
use Rattle.std.proofs.Common.{◌≡◌, ℕ, zero, suc, ◌+◌, ◌-◌, ◌/◌, ◌%◌, ◌^◌, ◌<◌, max, List, length, refl, ap, sym, ◌∙◌, arith, length-append, Bool, false}
use Rattle.std.specs.Prelude.{nat_eq, slice_index_or}
use Rattle.std.specs.Int.{bit_at}
use Rattle.std.specs.Int.Count.{ones}
use Rattle.std.specs.List.{filter, range_with_len}
use Rattle.std.proofs.lemmas.Nat.{mod-pow-add, ones_cat, shr-shr}
use Rattle.std.proofs.lemmas.Nat.Bits.{bit_at-lt}
use Rattle.std.proofs.lemmas.List.Elements.{filter-append}
use Rattle.run_outlook.specs.ImageSets.{has}
use Rattle.run_outlook.proofs.Bits.{item_is}
use Rattle.run_outlook.proofs.Counting.{range_split}

-- the ones of so many bits of a word, and the numbers that pass
ones_in_part : (p : ℕ → Bool) (w n s a : ℕ) → ((j : ℕ) → j < n → p (a + j) ≡ nat_eq (bit_at w (s + j)) 1) → ones (w / 2 ^ s % 2 ^ n) ≡ length (filter p (range_with_len a n))
unfolding ones
ones_in_part p w zero s a same =
    let z : w / 2 ^ s % 2 ^ 0 ≡ 0 = omega arith in
    ap ones z
ones_in_part p w (suc n) s a same =
    let k : suc n ≡ n + 1 = omega arith in
    let rest = ones_in_part p w n (s + 1) (a + 1) (λ j h.
    let e : a + 1 + j ≡ a + suc j = omega arith in
    let f : s + suc j ≡ s + 1 + j = omega arith in
    ap p e ∙ same (suc j) (omega arith) ∙ ap (λ i. nat_eq (bit_at w i) 1) f) in
    let bound : w / 2 ^ s % 2 ^ 1 < 2 ^ 1 = omega arith in
    let split =
    ap (λ i. ones (w / 2 ^ s % 2 ^ i)) k ∙ ap ones (mod-pow-add (w / 2 ^ s) n 1) ∙ ones_cat 1 (w / 2 ^ s / 2 ^ 1 % 2 ^ n) (w / 2 ^ s % 2 ^ 1) bound
    ∙ ap (λ x. ones (x % 2 ^ n) + ones (w / 2 ^ s % 2 ^ 1)) (shr-shr w s 1) ∙ ap (λ x. x + ones (w / 2 ^ s % 2 ^ 1)) rest in
    let e : a + 0 ≡ a = omega arith in
    let f : s + 0 ≡ s = omega arith in
    let here : p a ≡ nat_eq (bit_at w s) 1 = ap p (sym e) ∙ same 0 (omega arith) ∙ ap (λ i. nat_eq (bit_at w i) 1) f in
    split ∙ by_bit (bit_at w s) (bit_at-lt w s) refl here
  where
    by_bit : (b : ℕ) → b < 2 → w / 2 ^ s % 2 ^ 1 ≡ b → p a ≡ nat_eq b 1 → length (filter p (range_with_len (a + 1) n)) + ones (w / 2 ^ s % 2 ^ 1) ≡ length (filter p (range_with_len a (suc n)))
    by_bit zero l is out = rw (is, out) (omega arith)
    by_bit (suc zero) l is out = rw (is, out) (omega arith)
    by_bit (suc (suc b)) l is out = absurd (omega arith)

-- of eight numbers whose bits stand in one word
pub byte_is : (words : List ℕ) (from w : ℕ) → from / 64 < length words → w ≡ slice_index_or words (from / 64) w → from % 8 ≡ 0 → ones (w / 2 ^ (from % 64) % 2 ^ 8) ≡ length (filter (has words) (range_with_len from 8))
byte_is words from w within is whole = ones_in_part (has words) w 8 (from % 64) from (λ j h.
    let e : (from + j) / 64 ≡ from / 64 = omega (arith, h, whole) in
    let f : (from + j) % 64 ≡ from % 64 + j = omega (arith, h, whole) in
    let there : slice_index_or words ((from + j) / 64) 0 ≡ w = ap (λ k. slice_index_or words k 0) e ∙ item_is words (from / 64) w 0 within is in
    ap (λ x. nat_eq (bit_at x ((from + j) % 64)) 1) there ∙ ap (λ i. nat_eq (bit_at w i) 1) f)

-- where number 0 doesn't pass, the numbers begin at 1
pub without_zero : (p : ℕ → Bool) (n : ℕ) → p 0 ≡ false → filter p (range_with_len 0 n) ≡ filter p (range_with_len 1 (max n 1 - 1))
without_zero p zero out = refl
without_zero p (suc n) out =
    let e : max (suc n) 1 - 1 ≡ n = omega arith in
    rw out (ap (λ k. filter p (range_with_len 1 k)) (sym e))

-- the numbers of one byte more
pub byte_more : (p : ℕ → Bool) (from : ℕ) → length (filter p (range_with_len 0 (from + 8))) ≡ length (filter p (range_with_len 0 from)) + length (filter p (range_with_len from 8))
byte_more p from =
    let e : 0 + from ≡ from = omega arith in
    ap (λ xs. length (filter p xs)) (range_split 0 from 8 (from + 8) refl) ∙ ap length (filter-append p (range_with_len 0 from) (range_with_len (0 + from) 8))
    ∙ length-append (filter p (range_with_len 0 from)) (filter p (range_with_len (0 + from) 8)) ∙ ap (λ k. length (filter p (range_with_len 0 from)) + length (filter p (range_with_len k 8))) e
