-- How many of the first numbers pass a test, and which stands at a place among them.
use Rattle.std.proofs.Common.{◌≡◌, ℕ, zero, suc, ◌+◌, ◌-◌, ◌<◌, ◌≤◌, List, [], ◌∷◌, ◌++◌, inl, inr, length, refl, ap, sym, ◌∙◌, subst, arith, length-append, Bool, true, false}
use Rattle.std.specs.Prelude.{slice_index}
use Rattle.std.specs.List.{filter, range_with_len}
use Rattle.std.proofs.lemmas.Bool.{cases_lt, cases_Bool}
use Rattle.std.proofs.lemmas.List.{append-nil}
use Rattle.std.proofs.lemmas.List.FromFn.{length-range_with_len}
use Rattle.std.proofs.lemmas.List.Elements.{filter-append}

pub range_split : (a k m n : ℕ) → n ≡ k + m → range_with_len a n ≡ range_with_len a k ++ range_with_len (a + k) m
range_split a zero m n e =
    let p : n ≡ m = omega arith in
    let q : a ≡ a + 0 = omega arith in
    ap (range_with_len a) p ∙ ap (λ x. range_with_len x m) q
range_split a (suc k) m zero e = absurd (omega arith)
range_split a (suc k) m (suc n) e =
    let p : n ≡ k + m = omega arith in
    let q : a + 1 + k ≡ a + suc k = omega arith in
    ap (λ xs. a ∷ xs) (range_split (a + 1) k m n p ∙ ap (λ x. range_with_len (a + 1) k ++ range_with_len x m) q)

pub none_in : (p : ℕ → Bool) (a n : ℕ) → ((j : ℕ) → a ≤ j → j < a + n → p j ≡ false) → filter p (range_with_len a n) ≡ []
none_in p a zero h = refl
none_in p a (suc n) h = rw (h a (omega arith) (omega arith)) (none_in p (a + 1) n (λ j low high. h j (omega arith) (omega arith)))

-- two tests that agree on the numbers
pub same_in : (p q : ℕ → Bool) (a n : ℕ) → ((j : ℕ) → a ≤ j → j < a + n → q j ≡ p j) → filter q (range_with_len a n) ≡ filter p (range_with_len a n)
same_in p q a zero h = refl
same_in p q a (suc n) h =
    let rest = same_in p q (a + 1) n (λ j low high. h j (omega arith) (omega arith)) in
    let here = h a (omega arith) (omega arith) in
    elim (cases_Bool (p a)) [
      | inl t ↦ (let s = here ∙ t in rw (t, s) (ap (λ xs. a ∷ xs) rest))
      | inr f ↦ (let s = here ∙ f in rw (f, s) rest)
    ]

-- one number more passes
pub one_in : (p q : ℕ → Bool) (a n i : ℕ) → a ≤ i → i < a + n → p i ≡ false → q i ≡ true → ((j : ℕ) → (j ≡ i → ⊥) → q j ≡ p j) → length (filter q (range_with_len a n)) ≡ length (filter p (range_with_len a n)) + 1
one_in p q a zero i low high out in_now same = absurd (omega arith)
one_in p q a (suc n) i low high out in_now same = elim (cases_lt a i) [
  | inl l ↦ (
      let here : q a ≡ p a = same a (λ e. omega arith) in
      let rest = one_in p q (a + 1) n i (omega arith) (omega arith) out in_now same in
      elim (cases_Bool (p a)) [
        | inl t ↦ (let s = here ∙ t in rw (t, s) (omega arith))
        | inr f ↦ (let s = here ∙ f in rw (f, s) rest)
      ])
  | inr g ↦ (
      let e : i ≡ a = omega arith in
      let f : p a ≡ false = subst (λ j. p j ≡ false) e out in
      let t : q a ≡ true = subst (λ j. q j ≡ true) e in_now in
      let rest = ap length (same_in p q (a + 1) n (λ j under over. same j (λ z. omega arith))) in
      rw (f, t) (omega arith))
]

filter_length : (p : ℕ → Bool) (xs : List ℕ) → length (filter p xs) ≤ length xs
filter_length p [] = omega arith
filter_length p (x ∷ xs) =
    let r = filter_length p xs in
    elim (cases_Bool (p x)) [ inl t ↦ rw t (omega arith) | inr f ↦ rw f (omega arith) ]

-- no more numbers pass than there are
pub few_pass : (p : ℕ → Bool) (a n : ℕ) → length (filter p (range_with_len a n)) ≤ n
few_pass p a n = let f = filter_length p (range_with_len a n) in let l = length-range_with_len a n in omega arith

module _ (p : ℕ → Bool) (k : ℕ) where
  numbers_more : range_with_len 1 (suc k) ≡ range_with_len 1 k ++ (suc k) ∷ []
  numbers_more =
      let e : suc k ≡ k + 1 = omega arith in
      let q : 1 + k ≡ suc k = omega arith in
      range_split 1 k 1 (suc k) e ∙ ap (λ x. range_with_len 1 k ++ x ∷ []) q

  with_one : p (suc k) ≡ true → filter p (range_with_len 1 (suc k)) ≡ filter p (range_with_len 1 k) ++ (suc k) ∷ []
  with_one passes = ap (filter p) numbers_more ∙ filter-append p (range_with_len 1 k) (suc k ∷ []) ∙ ap (λ xs. filter p (range_with_len 1 k) ++ xs) (rw passes refl)

  pub one_more : p (suc k) ≡ true → length (filter p (range_with_len 1 (suc k))) ≡ length (filter p (range_with_len 1 k)) + 1
  one_more passes = ap length (with_one passes) ∙ length-append (filter p (range_with_len 1 k)) (suc k ∷ [])

  index_behind : (xs ys : List ℕ) (x : ℕ) → slice_index ((xs ++ x ∷ []) ++ ys) (length xs) ≡ x
  index_behind [] ys x = refl
  index_behind (z ∷ xs) ys x = index_behind xs ys x

  -- a number that passes stands behind the lower ones that do
  pub stands : (n : ℕ) → suc k ≤ n → p (suc k) ≡ true → slice_index (filter p (range_with_len 1 n)) (length (filter p (range_with_len 1 k))) ≡ suc k
  stands n high passes =
      let e : n ≡ suc k + (n - suc k) = omega arith in
      ap (λ xs. slice_index xs (length (filter p (range_with_len 1 k))))
      (ap (filter p) (range_split 1 (suc k) (n - suc k) n e) ∙ filter-append p (range_with_len 1 (suc k)) (range_with_len (1 + suc k) (n - suc k)) ∙ ap (λ xs. xs ++ filter p (range_with_len (1 + suc k) (n - suc k))) (with_one passes))
      ∙ index_behind (filter p (range_with_len 1 k)) (filter p (range_with_len (1 + suc k) (n - suc k))) (suc k)

-- none passes between two numbers
pub none_between : (p : ℕ → Bool) (from i : ℕ) → 0 < from → from ≤ i → ((j : ℕ) → from ≤ j → j < i → p j ≡ false) → filter p (range_with_len 1 (i - 1)) ≡ filter p (range_with_len 1 (from - 1))
none_between p from i low high none =
    let e : i - 1 ≡ from - 1 + (i - from) = omega (arith, low, high) in
    ap (filter p) (range_split 1 (from - 1) (i - from) (i - 1) e) ∙ filter-append p (range_with_len 1 (from - 1)) (range_with_len (1 + (from - 1)) (i - from))
    ∙ ap (λ xs. filter p (range_with_len 1 (from - 1)) ++ xs) (none_in p (1 + (from - 1)) (i - from) (λ j a b. none j (omega arith) (omega arith)))
    ∙ append-nil (filter p (range_with_len 1 (from - 1)))

-- the first number that passes behind so many others
pub stands_next : (p : ℕ → Bool) (n from i place : ℕ) → 0 < from → from ≤ i → i ≤ n → p i ≡ true → ((j : ℕ) → from ≤ j → j < i → p j ≡ false) → length (filter p (range_with_len 1 (from - 1))) ≡ place → i ≡ slice_index (filter p (range_with_len 1 n)) place
stands_next p n from i place low over high passes none counted =
    let e : i ≡ suc (i - 1) = omega arith in
    let f : suc (i - 1) ≤ n = omega arith in
    e ∙ sym (stands p (i - 1) n f (subst (λ j. p j ≡ true) e passes)) ∙ ap (λ l. slice_index (filter p (range_with_len 1 n)) l) (ap length (none_between p from i low over none) ∙ counted)

-- so many pass up to it
pub counted_next : (p : ℕ → Bool) (from i : ℕ) → 0 < from → from ≤ i → p i ≡ true → ((j : ℕ) → from ≤ j → j < i → p j ≡ false) → length (filter p (range_with_len 1 (i + 1 - 1))) ≡ length (filter p (range_with_len 1 (from - 1))) + 1
counted_next p from i low over passes none =
    let e : i ≡ suc (i - 1) = omega arith in
    let k : i + 1 - 1 ≡ suc (i - 1) = omega arith in
    ap (λ n. length (filter p (range_with_len 1 n))) k ∙ one_more p (i - 1) (subst (λ j. p j ≡ true) e passes) ∙ ap (λ xs. length xs + 1) (none_between p from i low over none)

-- where none passes from a number on, no more pass than below it
pub none_from : (p : ℕ → Bool) (n from : ℕ) → 0 < from → ((j : ℕ) → from ≤ j → p j ≡ false) → length (filter p (range_with_len 1 n)) ≤ length (filter p (range_with_len 1 (from - 1)))
none_from p n from low none = elim (cases_lt n from) [
  | inl l ↦ (
      let e : from - 1 ≡ n + (from - 1 - n) = omega (arith, l) in
      let split = ap length (ap (filter p) (range_split 1 n (from - 1 - n) (from - 1) e) ∙ filter-append p (range_with_len 1 n) (range_with_len (1 + n) (from - 1 - n))) ∙ length-append (filter p (range_with_len 1 n)) (filter p (range_with_len (1 + n) (from - 1 - n))) in
      omega arith)
  | inr g ↦ (
      let same = ap length (none_between p from (n + 1) low (omega arith) (λ j a b. none j a)) in
      let k : n + 1 - 1 ≡ n = omega arith in
      let there = ap (λ m. length (filter p (range_with_len 1 m))) k in
      omega arith)
]
