-- The bits of the words of a set.
use Rattle.std.proofs.Common.{◌≡◌, ℕ, zero, suc, ◌+◌, ◌-◌, ◌*◌, ◌/◌, ◌%◌, ◌^◌, ◌<◌, ◌≤◌, max, List, [], ◌∷◌, inl, inr, length, refl, ap, sym, ◌∙◌, subst, arith, true, false, w64}
use Rattle.std.specs.Prelude.{Some, ◌||◌, nat_eq, slice_index_or, slice_set, bit_and, bit_or}
use Rattle.std.specs.Int.{bit_at, bit_not, trailing_zeros}
use Rattle.std.proofs.lemmas.Bool.{cases_eq, cases_lt}
use Rattle.std.proofs.lemmas.Nat.{shr-shr}
use Rattle.std.proofs.Math.Nat.{div-one, div-le_self}
use Rattle.std.proofs.lemmas.Nat.Bits.{bit_at_or, bit_at-zero, bit_at-lt, bit_at_above, bit_at_set_same, bit_at_set_other, bit_at_clear_same, bit_at_clear_other, bit_at-trailing_zeros}
use Rattle.std.proofs.lemmas.List.{get_or-set_same, get_or-set_other, get_or_past}
use Rattle.run_outlook.specs.ImageSets.{has, IsLeastFrom}

-- the item that stands at a place, whatever stands for one that doesn't
pub item_is : {A : Type 0} (xs : List A) (k : ℕ) (x d : A) → k < length xs → x ≡ slice_index_or xs k x → slice_index_or xs k d ≡ x
item_is [] k x d h p = absurd (omega arith)
item_is (y ∷ ys) zero x d h p = sym p
item_is (y ∷ ys) (suc k) x d h p = item_is ys k x d (omega arith) p

-- the words with one word written, where it was w
module _ (words : List ℕ) (i w : ℕ) (within : i < 64 * length words) (was : w ≡ slice_index_or words (i / 64) w) where
  inside : i / 64 < length words
  inside = omega arith

  written : (v : ℕ) → has (slice_set words (i / 64) v) i ≡ nat_eq (bit_at v (i % 64)) 1
  written v = ap (λ x. nat_eq (bit_at x (i % 64)) 1) (get_or-set_same words (i / 64) v 0 inside)

  -- a bit that stays as it was in that word, or stands in another one
  other : (v j : ℕ) → (j ≡ i → ⊥) → (j / 64 ≡ i / 64 → bit_at v (j % 64) ≡ bit_at w (j % 64)) → has (slice_set words (i / 64) v) j ≡ has words j
  other v j apart same = elim (cases_eq (j / 64) (i / 64)) [
    | inl e ↦ (
        let here : slice_index_or (slice_set words (i / 64) v) (j / 64) 0 ≡ v = ap (λ k. slice_index_or (slice_set words (i / 64) v) k 0) e ∙ get_or-set_same words (i / 64) v 0 inside in
        let there : slice_index_or words (j / 64) 0 ≡ w = ap (λ k. slice_index_or words k 0) e ∙ item_is words (i / 64) w 0 inside was in
        ap (λ x. nat_eq (bit_at x (j % 64)) 1) here ∙ ap (λ b. nat_eq b 1) (same e) ∙ sym (ap (λ x. nat_eq (bit_at x (j % 64)) 1) there))
    | inr n ↦ ap (λ x. nat_eq (bit_at x (j % 64)) 1) (get_or-set_other words (i / 64) (j / 64) v 0 n)
  ]

  below : (j : ℕ) → j % 64 < 64
  below j = omega arith

  pub set_here : has (slice_set words (i / 64) (bit_or w (1 * 2 ^ (i % 64) % 2 ^ 64))) i ≡ true
  set_here = written _ ∙ ap (λ b. nat_eq b 1) (bit_at_set_same w64 w (i % 64) (below i))

  pub set_other : (j : ℕ) → (j ≡ i → ⊥) → has (slice_set words (i / 64) (bit_or w (1 * 2 ^ (i % 64) % 2 ^ 64))) j ≡ has words j
  set_other j apart = other _ j apart (λ e. bit_at_set_other w64 w (i % 64) (below i) (j % 64) (λ q. apart (omega (arith, e, q))))

  pub clear_here : has (slice_set words (i / 64) (bit_and w (bit_not w64 (1 * 2 ^ (i % 64) % 2 ^ 64)))) i ≡ false
  clear_here = written _ ∙ ap (λ b. nat_eq b 1) (bit_at_clear_same w64 w (i % 64) (below i))

  pub clear_other : (j : ℕ) → (j ≡ i → ⊥) → has (slice_set words (i / 64) (bit_and w (bit_not w64 (1 * 2 ^ (i % 64) % 2 ^ 64)))) j ≡ has words j
  clear_other j apart = other _ j apart (λ e. bit_at_clear_other w64 w (i % 64) (below i) (j % 64) (below j) (λ q. apart (omega (arith, e, q))))

or_of : (a b : ℕ) → a < 2 → b < 2 → nat_eq (max a b) 1 ≡ (nat_eq a 1 || nat_eq b 1)
or_of zero zero h k = refl
or_of zero (suc zero) h k = refl
or_of (suc zero) zero h k = refl
or_of (suc zero) (suc zero) h k = refl
or_of (suc (suc a)) b h k = absurd (omega arith)
or_of zero (suc (suc b)) h k = absurd (omega arith)
or_of (suc zero) (suc (suc b)) h k = absurd (omega arith)

-- the bits of two words
pub has_either : (new old more : List ℕ) → length new ≡ length old → length more ≡ length old
    → ((k : ℕ) → k < length old → slice_index_or new k 0 ≡ bit_or (slice_index_or old k 0) (slice_index_or more k 0))
    → (j : ℕ) → has new j ≡ (has old j || has more j)
has_either new old more l m each j = elim (cases_lt (j / 64) (length old)) [
  | inl h ↦ (
      ap (λ x. nat_eq (bit_at x (j % 64)) 1) (each (j / 64) h)
      ∙ ap (λ b. nat_eq b 1) (bit_at_or (slice_index_or old (j / 64) 0) (slice_index_or more (j / 64) 0) (j % 64))
      ∙ or_of _ _ (bit_at-lt (slice_index_or old (j / 64) 0) (j % 64)) (bit_at-lt (slice_index_or more (j / 64) 0) (j % 64)))
  | inr h ↦ past (omega arith)
]
  where
    past : length old ≤ j / 64 → has new j ≡ (has old j || has more j)
    past h =
        let a : slice_index_or new (j / 64) 0 ≡ 0 = get_or_past new (j / 64) 0 (omega arith) in
        let b : slice_index_or old (j / 64) 0 ≡ 0 = get_or_past old (j / 64) 0 (omega arith) in
        let c : slice_index_or more (j / 64) 0 ≡ 0 = get_or_past more (j / 64) 0 (omega arith) in
        let z = ap (λ b. nat_eq b 1) (bit_at-zero (j % 64)) in
        ap (λ x. nat_eq (bit_at x (j % 64)) 1) a ∙ z
        ∙ sym (ap (λ x. nat_eq (bit_at x (j % 64)) 1 || has more j) b ∙ ap (λ t. t || has more j) z ∙ ap (λ x. nat_eq (bit_at x (j % 64)) 1) c ∙ z)

-- a bit above a shifted word's start
shifted : (w s j : ℕ) → bit_at (w / 2 ^ s) j ≡ bit_at w (s + j)
shifted w s j = ap (λ n. n % 2) (shr-shr w s j)

-- the lowest bit of a word from a place on
module _ (words : List ℕ) (from w : ℕ) (within : from / 64 < length words) (is : w ≡ slice_index_or words (from / 64) w) (small : w < 2 ^ 64) where
  word_is : slice_index_or words (from / 64) 0 ≡ w
  word_is = item_is words (from / 64) w 0 within is

  here : (j : ℕ) → j / 64 ≡ from / 64 → from ≤ j → has words j ≡ nat_eq (bit_at (w / 2 ^ (from % 64)) (j - from)) 1
  here j e low =
      let there : slice_index_or words (j / 64) 0 ≡ w = ap (λ k. slice_index_or words k 0) e ∙ word_is in
      let at : j % 64 ≡ from % 64 + (j - from) = omega (arith, e, low) in
      ap (λ x. nat_eq (bit_at x (j % 64)) 1) there ∙ ap (λ n. nat_eq (bit_at w n) 1) at ∙ ap (λ b. nat_eq b 1) (sym (shifted w (from % 64) (j - from)))

  -- none is left in the word
  pub none_here : w / 2 ^ (from % 64) ≡ 0 → (j : ℕ) → from ≤ j → j < (from / 64 + 1) * 64 → has words j ≡ false
  none_here z j low high =
      let e : j / 64 ≡ from / 64 = omega (arith, low, high) in
      here j e low ∙ ap (λ x. nat_eq (bit_at x (j - from)) 1) z ∙ ap (λ b. nat_eq b 1) (bit_at-zero (j - from))

  low_word : w / 2 ^ (from % 64) < 2 ^ 64
  low_word = let l = div-le_self w (2 ^ (from % 64)) in omega arith

  module _ (some : 0 < w / 2 ^ (from % 64)) where
    t : ℕ
    t = trailing_zeros w64 (w / 2 ^ (from % 64))

    found : (t < 64) × (bit_at (w / 2 ^ (from % 64)) t ≡ 1) × ((i : ℕ) → i < t → bit_at (w / 2 ^ (from % 64)) i ≡ 0)
    unfolding t
    found = bit_at-trailing_zeros w64 (w / 2 ^ (from % 64)) some low_word

    fits : from % 64 + t < 64
    fits = elim (cases_lt (from % 64 + t) 64) [
      | inl l ↦ l
      | inr g ↦ (
          let none = bit_at_above w 64 (from % 64 + t) small (omega arith) in
          let one = found.1 in
          let same = shifted w (from % 64) t in
          absurd (omega arith))
    ]

    at_lowest : has words (from + t) ≡ true
    at_lowest =
        let e : (from + t) / 64 ≡ from / 64 = omega (arith, fits) in
        let d : from + t - from ≡ t = omega arith in
        here (from + t) e (omega arith) ∙ ap (λ n. nat_eq (bit_at (w / 2 ^ (from % 64)) n) 1) d ∙ ap (λ b. nat_eq b 1) found.1

    under : (j : ℕ) → from ≤ j → j < from + t → has words j ≡ false
    under j low high =
        let e : j / 64 ≡ from / 64 = omega (arith, fits, low, high) in
        here j e low ∙ ap (λ b. nat_eq b 1) (found.2 (j - from) (omega arith))

    pub lowest_here : IsLeastFrom (has words) from (Some (from + trailing_zeros w64 (w / 2 ^ (from % 64))))
    unfolding t
    lowest_here = (omega arith, at_lowest, under)

-- the lowest bit of a further word
pub lowest_there : (words : List ℕ) (from at w : ℕ) → at < length words → w ≡ slice_index_or words at w → w < 2 ^ 64 → 0 < w → from ≤ at * 64 → ((j : ℕ) → from ≤ j → j < at * 64 → has words j ≡ false)
    → IsLeastFrom (has words) from (Some (at * 64 + trailing_zeros w64 w))
lowest_there words from at w within is small some low none =
    let a : at ≡ at * 64 / 64 = omega arith in
    let z : at * 64 % 64 ≡ 0 = omega arith in
    let whole : w / 2 ^ (at * 64 % 64) ≡ w = ap (λ n. w / 2 ^ n) z ∙ div-one w in
    let here = lowest_here words (at * 64) w (omega arith) (subst (λ k. w ≡ slice_index_or words k w) a is) small (subst (λ v. 0 < v) (sym whole) some) in
    let found : IsLeastFrom (has words) (at * 64) (Some (at * 64 + trailing_zeros w64 w)) = subst (λ v. IsLeastFrom (has words) (at * 64) (Some (at * 64 + trailing_zeros w64 v))) whole here in
    (omega (arith, low), found.1, λ j l h. elim (cases_lt j (at * 64)) [ inl b ↦ none j l b | inr g ↦ found.2 j (omega arith) h ])
