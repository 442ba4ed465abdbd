-- Image indices of the current team.
use Rattle.std.proofs.Common.{◌≡◌, ℕ, zero, suc, ◌+◌, ◌<◌, ◌≤◌, ℤ, true, false, List, [], ◌∷◌, length, get_or, drop, refl, ap, sym, ◌∙◌, subst, arith}
use Rattle.std.specs.Ordering.{int_eq}
use Rattle.std.proofs.lemmas.Bool.{le-leb, lt-leb}
use Rattle.caf_base.specs.Arithmetic.{truth}
use Rattle.walk_theory.specs.Language.{stuck}
use Rattle.image_acts.specs.Acts as a
use Rattle.image_acts.specs.Core.{Array, with_values, pushed, elements_in, row}
use Rattle.image_acts.specs.Taking.{Acted, telling}
use Rattle.image_acts.specs.Teams.{current_team, members, is_index_of, differs_from, are_indices_of, counted_from}
use Rattle.image_acts.specs.Operate.Bounds.{bounds_effect}
use Rattle.image_state.specs.Kept.{Kept}
use Rattle.image_state.specs.Arrays.{with_arrays}
use Rattle.array_values.specs.Values.{elements_on_top, row_of}
use Rattle.array_values.proofs.RowLaws.{counted_long}
use Rattle.image_state.specs.declared.state.Acting.TheVariants as actings
use Rattle.image_state.specs.Acting.{with_core, Acts}
use Rattle.image_state.proofs.Taking.{one_taken}

module _ (m e : Kept) (v : ℤ) where
  pub is_index_told : m.core.values ≡ v ∷ drop 1 m.core.values → e ≡ with_core m (pushed (truth (is_index_of (length (members m.core (current_team m.core))) v)) (with_values m.core (drop 1 m.core.values))) → Acts m (bounds_effect a.is_index m.core) e actings.Done
  is_index_told h g = one_taken m e actings.Done v (drop 1 m.core.values) (λ v d. telling (is_index_of (length (members d (current_team d))) v) d) h (refl, g)

module _ (m : Kept) where
  abbrev asked_of : Array → Acted
  asked_of x = telling (are_indices_of (length (members m.core (current_team m.core))) x.elements) m.core

  none_of : (xs : List Array) → length xs < 1 → Acts m (elim xs [ [] ↦ stuck | y ∷ ys ↦ asked_of y ]) m actings.Stuck
  none_of [] h = (refl, refl)
  none_of (y ∷ ys) h = absurd (omega arith)

  pub no_indices : length m.core.arrays < 1 → Acts m (bounds_effect a.are_indices m.core) m actings.Stuck
  no_indices h = none_of m.core.arrays h

  told_of : (e : Kept) (xs : List Array) → 1 ≤ length xs → e ≡ with_core m (pushed (truth (are_indices_of (length (members m.core (current_team m.core))) (elements_on_top xs))) m.core) → Acts m (elim xs [ [] ↦ stuck | y ∷ ys ↦ asked_of y ]) e actings.Done
  told_of e [] h g = absurd (omega arith)
  told_of e (y ∷ ys) h g = (refl, g)

  pub indices_told : (e : Kept) → 1 ≤ length m.core.arrays → e ≡ with_core m (pushed (truth (are_indices_of (length (members m.core (current_team m.core))) (elements_on_top m.core.arrays))) m.core) → Acts m (bounds_effect a.are_indices m.core) e actings.Done
  indices_told e h g = told_of e m.core.arrays h g

module _ (m : Kept) (n : ℕ) where
  pub every_full : n ≡ length (members m.core (current_team m.core)) → 524288 < elements_in m.core.arrays + n → Acts m (bounds_effect a.every_index m.core) m (actings.Fault 11)
  every_full e h = (let f : 524288 < elements_in m.core.arrays + length (members m.core (current_team m.core)) = omega arith in rw (lt-leb (elements_in m.core.arrays + length (members m.core (current_team m.core))) 524288 f) (refl, refl))

  pub every_told : (e : Kept) → n ≡ length (members m.core (current_team m.core)) → elements_in m.core.arrays + n ≤ 524288 → e ≡ with_core m (with_arrays m.core (row_of (counted_from 1 n) ∷ m.core.arrays)) → Acts m (bounds_effect a.every_index m.core) e actings.Done
  every_told e f h g =
      let k : ℕ = length (members m.core (current_team m.core)) in
      let l : elements_in m.core.arrays + k ≤ 524288 = omega arith in
      let r : row_of (counted_from 1 n) ≡ row (counted_from 1 k) k = ap (row (counted_from 1 n)) (counted_long 1 n) ∙ ap (λ j. row (counted_from 1 j) j) f in
      rw (le-leb (elements_in m.core.arrays + k) 524288 l) (refl, g ∙ ap (λ (x : Array). with_core m (with_arrays m.core (x ∷ m.core.arrays))) r)

-- a number after another one that it differs from, and an index after another one
module _ (v d : ℤ) where
  differs_suc : (xs : List ℤ) (i : ℕ) → i < length xs → int_eq v (get_or xs i d) ≡ false → differs_from v (drop i xs) ≡ differs_from v (drop (suc i) xs)
  differs_suc [] i h e = absurd (omega arith)
  differs_suc (x ∷ xs) zero h e = rw e refl
  differs_suc (x ∷ xs) (suc i) h e = differs_suc xs i (omega arith) e

  pub differs_next : (xs : List ℤ) (i : ℕ) → i < length xs → int_eq v (get_or xs i d) ≡ false → differs_from v (drop i xs) ≡ differs_from v (drop (i + 1) xs)
  differs_next xs i h e = (let k : suc i ≡ i + 1 = omega arith in subst (λ j. differs_from v (drop i xs) ≡ differs_from v (drop j xs)) k (differs_suc xs i h e))

  pub differs_not : (xs : List ℤ) (i : ℕ) → i < length xs → int_eq v (get_or xs i d) ≡ true → differs_from v (drop i xs) ≡ false
  differs_not [] i h e = absurd (omega arith)
  differs_not (x ∷ xs) zero h e = rw e refl
  differs_not (x ∷ xs) (suc i) h e = differs_not xs i (omega arith) e

module _ (n : ℕ) (d : ℤ) where
  indices_suc : (xs : List ℤ) (i : ℕ) → i < length xs → is_index_of n (get_or xs i d) ≡ true → differs_from (get_or xs i d) (drop (suc i) xs) ≡ true → are_indices_of n (drop i xs) ≡ are_indices_of n (drop (suc i) xs)
  indices_suc [] i h e f = absurd (omega arith)
  indices_suc (x ∷ xs) zero h e f = rw (e, f) refl
  indices_suc (x ∷ xs) (suc i) h e f = indices_suc xs i (omega arith) e f

  once_suc : (xs : List ℤ) (i : ℕ) → i < length xs → is_index_of n (get_or xs i d) ≡ true → differs_from (get_or xs i d) (drop (suc i) xs) ≡ false → are_indices_of n (drop i xs) ≡ false
  once_suc [] i h e f = absurd (omega arith)
  once_suc (x ∷ xs) zero h e f = rw (e, f) refl
  once_suc (x ∷ xs) (suc i) h e f = once_suc xs i (omega arith) e f

  pub indices_next : (xs : List ℤ) (i : ℕ) → i < length xs → is_index_of n (get_or xs i d) ≡ true → differs_from (get_or xs i d) (drop (i + 1) xs) ≡ true → are_indices_of n (drop i xs) ≡ are_indices_of n (drop (i + 1) xs)
  indices_next xs i h e f = (let k : suc i ≡ i + 1 = omega arith in subst (λ j. are_indices_of n (drop i xs) ≡ are_indices_of n (drop j xs)) k (indices_suc xs i h e (subst (λ j. differs_from (get_or xs i d) (drop j xs) ≡ true) (sym k) f)))

  pub not_once : (xs : List ℤ) (i : ℕ) → i < length xs → is_index_of n (get_or xs i d) ≡ true → differs_from (get_or xs i d) (drop (i + 1) xs) ≡ false → are_indices_of n (drop i xs) ≡ false
  not_once xs i h e f = (let k : suc i ≡ i + 1 = omega arith in once_suc xs i h e (subst (λ j. differs_from (get_or xs i d) (drop j xs) ≡ false) (sym k) f))

  pub not_index : (xs : List ℤ) (i : ℕ) → i < length xs → is_index_of n (get_or xs i d) ≡ false → are_indices_of n (drop i xs) ≡ false
  not_index [] i h e = absurd (omega arith)
  not_index (x ∷ xs) zero h e = rw e refl
  not_index (x ∷ xs) (suc i) h e = not_index xs i (omega arith) e
