-- Entries of so many images, of each at most so many, are at most as many as both numbers multiplied.
use Rattle.std.proofs.Common.{◌≡◌, ℕ, zero, suc, ◌+◌, ◌*◌, ◌≤◌, Bool, nat_eq, List, [], ◌∷◌, length, inl, inr, refl, ap, subst, arith}
use Rattle.std.specs.Prelude.{not}
use Rattle.std.specs.List.{filter}
use Rattle.std.proofs.Math.Nat.{suc-mul}
use Rattle.std.proofs.lemmas.Bool.{cases_Bool, cases_lt}
use Rattle.std.proofs.lemmas.Bool.Decides.{eqb_tells}
use Rattle.trace_theory.specs.Entries.{of, Each}
use Rattle.trace_theory.proofs.Filters.{filters_swap}
use Rattle.core_runs.specs.Beginnings.{IsOneOf}

module _ {E : Type 0} where
  split_length : (p : E → Bool) (xs : List E) → length xs ≡ length (filter p xs) + length (filter (λ x. not (p x)) xs)
  split_length p [] = refl
  split_length p (x ∷ xs) = elim (cases_Bool (p x)) [
    | inl t ↦ (let r = split_length p xs in rw t (omega arith))
    | inr f ↦ (let r = split_length p xs in rw f (omega arith))
  ]

  filter_few : (p : E → Bool) (xs : List E) → length (filter p xs) ≤ length xs
  filter_few p xs = let s = split_length p xs in omega arith

  -- those that aren't of the last one of so many images are of the others
  others : (key : E → ℕ) (n : ℕ) (xs : List E) → Each (λ x. IsOneOf (suc n) (key x)) xs → Each (λ x. IsOneOf n (key x)) (filter (λ x. not (nat_eq (key x) (suc n))) xs)
  others key n [] h = tt
  others key n (x ∷ xs) h = elim (eqb_tells (key x) (suc n)) [
    | inl t ↦ rw t.0 (others key n xs h.1)
    | inr f ↦ rw f.0 ((h.0.0, within (key x) h.0.1 f.1), others key n xs h.1)
  ]
    where
      within : (k : ℕ) → k ≤ suc n → (k ≡ suc n → ⊥) → k ≤ n
      within k le not_last = elim (cases_lt n k) [
        | inl l ↦ absurd (not_last (omega arith))
        | inr g ↦ g
      ]

  -- entries of an image that isn't one of those of the list
  none_of : (key : E → ℕ) (n i : ℕ) (xs : List E) → (IsOneOf n i → ⊥) → Each (λ x. IsOneOf n (key x)) xs → of key i xs ≡ []
  none_of key n i [] other h = refl
  none_of key n i (x ∷ xs) other h = elim (eqb_tells (key x) i) [
    | inl t ↦ absurd (other (subst (IsOneOf n) t.1 h.0))
    | inr f ↦ rw f.0 (none_of key n i xs other h.1)
  ]

  few_parts : (key : E → ℕ) (n k : ℕ) (t : List E) → Each (λ x. IsOneOf n (key x)) t → ((i : ℕ) → length (of key i t) ≤ k) → length t ≤ n * k
  few_parts key zero k [] each part = omega arith
  few_parts key zero k (x ∷ xs) each part = absurd (let low = each.0.0 in let high = each.0.1 in omega arith)
  few_parts key (suc n) k t each part =
      let rest = filter (λ x. not (nat_eq (key x) (suc n))) t in
      let s : length t ≡ length (of key (suc n) t) + length rest = split_length (λ x. nat_eq (key x) (suc n)) t in
      let mine = part (suc n) in
      let left : length rest ≤ n * k = few_parts key n k rest (others key n t each) (λ i. part_left i) in
      let product = suc-mul n k in
      omega arith
    where
      part_left : (i : ℕ) → length (of key i (filter (λ x. not (nat_eq (key x) (suc n))) t)) ≤ k
      part_left i =
          let e = ap length (filters_swap (λ x. nat_eq (key x) i) (λ x. not (nat_eq (key x) (suc n))) t) in
          let f = filter_few (λ x. not (nat_eq (key x) (suc n))) (of key i t) in
          let g = part i in
          omega arith

  -- it is enough that those of the images are so few
  pub few_of_images : (key : E → ℕ) (n k : ℕ) (t : List E) → Each (λ x. IsOneOf n (key x)) t → ((i : ℕ) → IsOneOf n i → length (of key i t) ≤ k) → length t ≤ n * k
  few_of_images key n k t each part = few_parts key n k t each by_image
    where
      by_image : (i : ℕ) → length (of key i t) ≤ k
      by_image i = elim (cases_lt 0 i) [
        | inl low ↦ elim (cases_lt n i) [
          | inl above ↦ (let e = ap length (none_of key n i t (λ h. (let high = h.1 in omega arith)) each) in omega arith)
          | inr high ↦ part i (low, high)
        ]
        | inr nothing ↦ (let e = ap length (none_of key n i t (λ h. (let positive = h.0 in omega arith)) each) in omega arith)
      ]
