-- Operands that are there, and that aren't.
use Rattle.std.proofs.Common.{◌≡◌, ℕ, zero, suc, ◌+◌, ◌<◌, ◌≤◌, ℤ, pos, false, List, [], ◌∷◌, length, drop, ap, sym, ◌∙◌, subst, arith}
use Rattle.std.specs.Prelude.{Option, cond, ◌==◌, slice_get, unwrap_or}
use Rattle.std.proofs.lemmas.Option.{unwrap_or-slice_get}
use Rattle.std.proofs.lemmas.List.{length-drop, drop-drop, get_or-drop}
use Rattle.walk_theory.specs.Language.{stuck}
use Rattle.image_acts.specs.Core.{Core, Array, with_values}
use Rattle.image_acts.specs.Taking.{Acted, given, taken, taking_one, taking_two, taking, seeing, taking_array}
use Rattle.image_state.proofs.Taking.{taken_are, taken_none}
use Rattle.image_asks.specs.Asking.{IsAsking}
use Rattle.image_asks.specs.Operands.{number_beneath, numbers_beneath, top_array}

-- what stands beneath others that are dropped
pub beneath_dropped : (d n k : ℕ) (vs : List ℤ) → d + n ≡ k → number_beneath n (drop d vs) ≡ number_beneath k vs
beneath_dropped d n k vs e = get_or-drop d vs n (pos 0) ∙ ap (λ i. number_beneath i vs) e

pub dropped_twice : (d n k : ℕ) (vs : List ℤ) → n + d ≡ k → drop d (drop n vs) ≡ drop k vs
dropped_twice d n k vs e = drop-drop d n vs ∙ ap (λ i. drop i vs) e

pub number_is : (d : ℕ) (vs : List ℤ) (o : Option ℤ) (v : ℤ) → o ≡ slice_get vs d → v ≡ unwrap_or o (pos 0) → v ≡ number_beneath d vs
number_is d vs o v h g = g ∙ ap (λ (x : Option ℤ). unwrap_or x (pos 0)) h ∙ unwrap_or-slice_get vs d (pos 0)

-- one number, and two
module _ (c : Core) where
  abbrev one_of : (ℤ → Core → Acted) → List ℤ → Acted
  one_of f ws = elim ws [ [] ↦ stuck | v ∷ vs ↦ f v (with_values c vs) ]

  one_is_of : (P : Acted → Type 0) (f : ℤ → Core → Acted) (ws : List ℤ) → 1 ≤ length ws → P (f (number_beneath 0 ws) (with_values c (drop 1 ws))) → P (one_of f ws)
  one_is_of P f [] h p = absurd (omega arith)
  one_is_of P f (v ∷ vs) h p = p

  one_in_of : (f : ℤ → Core → Acted) (ws : List ℤ) → IsAsking (one_of f ws) → (1 ≤ length ws) × IsAsking (f (number_beneath 0 ws) (with_values c (drop 1 ws)))
  one_in_of f [] h = absurd h
  one_in_of f (v ∷ vs) h = (omega arith, h)

  one_not_of : (P : Acted → Type 0) (f : ℤ → Core → Acted) (ws : List ℤ) → length ws < 1 → P stuck → P (one_of f ws)
  one_not_of P f [] h p = p
  one_not_of P f (v ∷ vs) h p = absurd (omega arith)

  pub one_is : (P : Acted → Type 0) (f : ℤ → Core → Acted) → 1 ≤ length c.values → P (f (number_beneath 0 c.values) (with_values c (drop 1 c.values))) → P (taking_one c f)
  one_is P f h p = one_is_of P f c.values h p

  pub one_in : (f : ℤ → Core → Acted) → IsAsking (taking_one c f) → (1 ≤ length c.values) × IsAsking (f (number_beneath 0 c.values) (with_values c (drop 1 c.values)))
  one_in f h = one_in_of f c.values h

  pub one_not : (P : Acted → Type 0) (f : ℤ → Core → Acted) → length c.values < 1 → P stuck → P (taking_one c f)
  one_not P f h p = one_not_of P f c.values h p

  two_is_of : (P : Acted → Type 0) (f : ℤ → ℤ → Core → Acted) (ws : List ℤ) → 2 ≤ length ws → P (f (number_beneath 1 ws) (number_beneath 0 ws) (with_values c (drop 2 ws))) → P (one_of (λ w d. taking_one d (λ v e. f v w e)) ws)
  two_is_of P f [] h p = absurd (omega arith)
  two_is_of P f (w ∷ []) h p = absurd (omega arith)
  two_is_of P f (w ∷ v ∷ vs) h p = p

  two_in_of : (f : ℤ → ℤ → Core → Acted) (ws : List ℤ) → IsAsking (one_of (λ w d. taking_one d (λ v e. f v w e)) ws) → (2 ≤ length ws) × IsAsking (f (number_beneath 1 ws) (number_beneath 0 ws) (with_values c (drop 2 ws)))
  two_in_of f [] h = absurd h
  two_in_of f (w ∷ []) h = absurd h
  two_in_of f (w ∷ v ∷ vs) h = (omega arith, h)

  two_not_of : (P : Acted → Type 0) (f : ℤ → ℤ → Core → Acted) (ws : List ℤ) → length ws < 2 → P stuck → P (one_of (λ w d. taking_one d (λ v e. f v w e)) ws)
  two_not_of P f [] h p = p
  two_not_of P f (w ∷ []) h p = p
  two_not_of P f (w ∷ v ∷ vs) h p = absurd (omega arith)

  pub two_is : (P : Acted → Type 0) (f : ℤ → ℤ → Core → Acted) → 2 ≤ length c.values → P (f (number_beneath 1 c.values) (number_beneath 0 c.values) (with_values c (drop 2 c.values))) → P (taking_two c f)
  two_is P f h p = two_is_of P f c.values h p

  pub two_in : (f : ℤ → ℤ → Core → Acted) → IsAsking (taking_two c f) → (2 ≤ length c.values) × IsAsking (f (number_beneath 1 c.values) (number_beneath 0 c.values) (with_values c (drop 2 c.values)))
  two_in f h = two_in_of f c.values h

  pub two_not : (P : Acted → Type 0) (f : ℤ → ℤ → Core → Acted) → length c.values < 2 → P stuck → P (taking_two c f)
  two_not P f h p = two_not_of P f c.values h p

  -- so many numbers
  taken_in : (n : ℕ) (vs xs : List ℤ) (f : List ℤ × List ℤ → Acted) → IsAsking (given (taken n vs xs) f) → n ≤ length vs
  taken_in zero vs xs f h = omega arith
  taken_in (suc n) [] xs f h = absurd h
  taken_in (suc n) (v ∷ vs) xs f h = (let k = taken_in n vs (v ∷ xs) f h in omega arith)

  pub some_is : (P : Acted → Type 0) (n : ℕ) (f : List ℤ → Core → Acted) → n ≤ length c.values → P (f (numbers_beneath 0 n c.values) (with_values c (drop n c.values))) → P (taking n c f)
  some_is P n f h p = subst (λ o. P (given o (λ q. f q.0 (with_values c q.1)))) (sym (taken_are n c.values h)) p

  pub some_in : (n : ℕ) (f : List ℤ → Core → Acted) → IsAsking (taking n c f) → (n ≤ length c.values) × IsAsking (f (numbers_beneath 0 n c.values) (with_values c (drop n c.values)))
  some_in n f h = (let k = taken_in n c.values [] (λ q. f q.0 (with_values c q.1)) h in (k, subst (λ o. IsAsking (given o (λ q. f q.0 (with_values c q.1)))) (taken_are n c.values k) h))

  pub some_not : (P : Acted → Type 0) (n : ℕ) (f : List ℤ → Core → Acted) → length c.values < n → P stuck → P (taking n c f)
  some_not P n f h p = subst (λ o. P (given o (λ q. f q.0 (with_values c q.1)))) (sym (taken_none n c.values [] h)) p

  -- numbers that stay; of none it doesn't matter beneath what
  needed_some : (d n : ℕ) → cond (suc n == 0) 0 (d + suc n) ≡ d + suc n
  needed_some d n = (let some : (suc n == 0) ≡ false = grind (arith) in ap (λ b. cond b 0 (d + suc n)) some)

  pub seen_is : (P : Acted → Type 0) (d n : ℕ) (f : List ℤ → Acted) → cond (n == 0) 0 (d + n) ≤ length c.values → P (f (numbers_beneath d n c.values)) → P (seeing d n c f)
  seen_is P d zero f h p = p
  seen_is P d (suc n) f h p =
      let l = length-drop d c.values in
      let k : d + suc n ≤ length c.values = subst (λ i. i ≤ length c.values) (needed_some d n) h in
      subst (λ o. P (given o (λ q. f q.0))) (sym (taken_are (suc n) (drop d c.values) (omega arith))) p

  pub seen_in : (d n : ℕ) (f : List ℤ → Acted) → IsAsking (seeing d n c f) → cond (n == 0) 0 (d + n) ≤ length c.values
  seen_in d zero f h = omega arith
  seen_in d (suc n) f h =
      let k = taken_in (suc n) (drop d c.values) [] (λ q. f q.0) h in
      let l = length-drop d c.values in
      let j : d + suc n ≤ length c.values = omega arith in
      subst (λ i. i ≤ length c.values) (sym (needed_some d n)) j

  pub seen_not : (P : Acted → Type 0) (d n : ℕ) (f : List ℤ → Acted) → length c.values < cond (n == 0) 0 (d + n) → P stuck → P (seeing d n c f)
  seen_not P d zero f h p = absurd (omega arith)
  seen_not P d (suc n) f h p =
      let l = length-drop d c.values in
      let k : length c.values < d + suc n = subst (λ i. length c.values < i) (needed_some d n) h in
      subst (λ o. P (given o (λ q. f q.0))) (sym (taken_none (suc n) (drop d c.values) [] (omega arith))) p

  -- the top array value
  abbrev array_of : (Array → Core → Acted) → List Array → Acted
  array_of f xs = elim xs [ [] ↦ stuck | y ∷ ys ↦ f y (record c { arrays = ys }) ]

  array_is_of : (P : Acted → Type 0) (f : Array → Core → Acted) (xs : List Array) → 1 ≤ length xs → P (f (top_array xs) (record c { arrays = drop 1 xs })) → P (array_of f xs)
  array_is_of P f [] h p = absurd (omega arith)
  array_is_of P f (y ∷ ys) h p = p

  array_in_of : (f : Array → Core → Acted) (xs : List Array) → IsAsking (array_of f xs) → 1 ≤ length xs
  array_in_of f [] h = absurd h
  array_in_of f (y ∷ ys) h = omega arith

  array_not_of : (P : Acted → Type 0) (f : Array → Core → Acted) (xs : List Array) → length xs < 1 → P stuck → P (array_of f xs)
  array_not_of P f [] h p = p
  array_not_of P f (y ∷ ys) h p = absurd (omega arith)

  pub array_is : (P : Acted → Type 0) (f : Array → Core → Acted) → 1 ≤ length c.arrays → P (f (top_array c.arrays) (record c { arrays = drop 1 c.arrays })) → P (taking_array c f)
  array_is P f h p = array_is_of P f c.arrays h p

  pub array_in : (f : Array → Core → Acted) → IsAsking (taking_array c f) → 1 ≤ length c.arrays
  array_in f h = array_in_of f c.arrays h

  pub array_not : (P : Acted → Type 0) (f : Array → Core → Acted) → length c.arrays < 1 → P stuck → P (taking_array c f)
  array_not P f h p = array_not_of P f c.arrays h p
