-- Array values that are there, and that aren't.
use Rattle.std.proofs.Common.{◌≡◌, ◌+◌, ◌<◌, ◌≤◌, ℤ, true, false, List, [], ◌∷◌, length, drop, refl, sym, subst, arith}
use Rattle.std.specs.Prelude.{nat_le}
use Rattle.std.specs.List.{list_all}
use Rattle.std.proofs.lemmas.Bool.{le-leb, lt-leb}
use Rattle.walk_theory.specs.Language.{goes_to, stuck}
use Rattle.caf_base.specs.declared.value.Kind.{Kind}
use Rattle.caf_base.specs.Arithmetic.{fits_kind}
use Rattle.image_acts.specs.Acts as a
use Rattle.image_acts.specs.Core.{Core, Array, with_array, with_values, elements_in, pushed}
use Rattle.image_acts.specs.Taking.{Acted, taking_array, unless, giving}
use Rattle.image_acts.specs.Operate.Stack.{stack_effect, behind}
use Rattle.image_acts.specs.Operate.Operators.{operator_effect}
use Rattle.image_acts.specs.Faults.{room, overflow}
use Rattle.image_acts.specs.Statuses.{most_elements}
use Rattle.image_state.proofs.Taking.{one_taken, none_taken}
use Rattle.array_values.specs.Values.{elements_on_top, with_element, merged_arrays}
use Rattle.image_state.specs.Kept.{Kept}
use Rattle.image_state.specs.Arrays.{with_arrays}
use Rattle.image_state.specs.declared.state.Acting.{Acting}
use Rattle.image_state.specs.declared.state.Acting.TheVariants as actings
use Rattle.image_state.specs.Acting.{with_core, Acts}

module _ (m : Kept) where
  none_there : (f : Array → Core → Acted) (xs : List Array) → length xs < 1 → Acts m (elim xs [ [] ↦ stuck | y ∷ ys ↦ f y (with_arrays m.core ys) ]) m actings.Stuck
  none_there f [] h = (refl, refl)
  none_there f (y ∷ ys) h = absurd (omega arith)

  pub array_missing : length m.core.arrays < 1 → Acts m (stack_effect a.drop_array m.core) m actings.Stuck
  array_missing h = none_there (λ x d. goes_to d) m.core.arrays h

  dropped_of : (e : Kept) (xs : List Array) → 1 ≤ length xs → e ≡ with_core m (with_arrays m.core (drop 1 xs)) → Acts m (elim xs [ [] ↦ stuck | y ∷ ys ↦ goes_to (with_arrays m.core ys) ]) e actings.Done
  dropped_of e [] h g = absurd (omega arith)
  dropped_of e (y ∷ ys) h g = (refl, g)

  pub array_dropped : (e : Kept) → 1 ≤ length m.core.arrays → e ≡ with_core m (with_arrays m.core (drop 1 m.core.arrays)) → Acts m (stack_effect a.drop_array m.core) e actings.Done
  array_dropped e h g = dropped_of e m.core.arrays h g

  missing_of : (xs : List Array) → length xs < 2 → Acts m (elim xs [ [] ↦ stuck | y ∷ ys ↦ taking_array (with_arrays m.core ys) (λ x e. goes_to (with_array (behind x y.elements) e)) ]) m actings.Stuck
  missing_of [] h = (refl, refl)
  missing_of (y ∷ []) h = (refl, refl)
  missing_of (y ∷ x ∷ xs) h = absurd (omega arith)

  pub two_arrays_missing : length m.core.arrays < 2 → Acts m (stack_effect a.append_array m.core) m actings.Stuck
  two_arrays_missing h = missing_of m.core.arrays h

  merged_of : (e : Kept) (xs : List Array) → 2 ≤ length xs → e ≡ with_core m (with_arrays m.core (merged_arrays xs)) → Acts m (elim xs [ [] ↦ stuck | y ∷ ys ↦ taking_array (with_arrays m.core ys) (λ x e. goes_to (with_array (behind x y.elements) e)) ]) e actings.Done
  merged_of e [] h g = absurd (omega arith)
  merged_of e (y ∷ []) h g = absurd (omega arith)
  merged_of e (y ∷ x ∷ xs) h g = (refl, g)

  pub two_arrays_there : (e : Kept) → 2 ≤ length m.core.arrays → e ≡ with_core m (with_arrays m.core (merged_arrays m.core.arrays)) → Acts m (stack_effect a.append_array m.core) e actings.Done
  two_arrays_there e h g = merged_of e m.core.arrays h g

  -- a number that is appended
  abbrev appending : ℤ → List ℤ → Array → Core → Acted
  appending v vs x e = unless room (nat_le (elements_in m.core.arrays + 1) most_elements) (goes_to (with_array (behind x (v ∷ [])) e))

  pub none_to_append : m.core.values ≡ [] → Acts m (stack_effect a.append m.core) m actings.Stuck
  none_to_append h = none_taken m (λ v d. taking_array d (λ x e. unless room (nat_le (elements_in d.arrays + 1) most_elements) (goes_to (with_array (behind x (v ∷ [])) e)))) h

  append_with : (e : Kept) (w : Acting) (v : ℤ) (vs : List ℤ) → m.core.values ≡ v ∷ vs → Acts m (taking_array (with_values m.core vs) (appending v vs)) e w → Acts m (stack_effect a.append m.core) e w
  append_with e w v vs h g = one_taken m e w v vs (λ v d. taking_array d (λ x e. unless room (nat_le (elements_in d.arrays + 1) most_elements) (goes_to (with_array (behind x (v ∷ [])) e)))) h g

  abbrev append_on : ℤ → List ℤ → List Array → Acted
  append_on v vs xs = elim xs [ [] ↦ stuck | y ∷ ys ↦ appending v vs y (with_arrays (with_values m.core vs) ys) ]

  lacks_of : (v : ℤ) (vs : List ℤ) (xs : List Array) → length xs < 1 → Acts m (append_on v vs xs) m actings.Stuck
  lacks_of v vs [] h = (refl, refl)
  lacks_of v vs (y ∷ ys) h = absurd (omega arith)

  pub no_array_to_append : (v : ℤ) (vs : List ℤ) → m.core.values ≡ v ∷ vs → length m.core.arrays < 1 → Acts m (stack_effect a.append m.core) m actings.Stuck
  no_array_to_append v vs h l = append_with m actings.Stuck v vs h (lacks_of v vs m.core.arrays l)

  append_full_of : (v : ℤ) (vs : List ℤ) (xs : List Array) → 1 ≤ length xs → 524288 ≤ elements_in m.core.arrays → Acts m (append_on v vs xs) m (actings.Fault 11)
  append_full_of v vs [] h l = absurd (omega arith)
  append_full_of v vs (y ∷ ys) h l = rw (lt-leb (elements_in m.core.arrays + 1) 524288 (omega arith)) (refl, refl)

  pub append_full : (v : ℤ) (vs : List ℤ) → m.core.values ≡ v ∷ vs → 1 ≤ length m.core.arrays → 524288 ≤ elements_in m.core.arrays → Acts m (stack_effect a.append m.core) m (actings.Fault 11)
  append_full v vs h l f = append_with m (actings.Fault 11) v vs h (append_full_of v vs m.core.arrays l f)

  appended_of : (e : Kept) (v : ℤ) (vs : List ℤ) (xs : List Array) → 1 ≤ length xs → elements_in m.core.arrays < 524288 → e ≡ with_core m (with_arrays (with_values m.core vs) (with_element v xs)) → Acts m (append_on v vs xs) e actings.Done
  appended_of e v vs [] h l g = absurd (omega arith)
  appended_of e v vs (y ∷ ys) h l g = rw (le-leb (elements_in m.core.arrays + 1) 524288 (omega arith)) (refl, g)

  pub appended : (e : Kept) (v : ℤ) (vs : List ℤ) → m.core.values ≡ v ∷ vs → 1 ≤ length m.core.arrays → elements_in m.core.arrays < 524288 → e ≡ with_core m (with_arrays (with_values m.core vs) (with_element v m.core.arrays)) → Acts m (stack_effect a.append m.core) e actings.Done
  appended e v vs h l f g = append_with e actings.Done v vs h (appended_of e v vs m.core.arrays l f g)

  -- the one element
  abbrev taken_out : List ℤ → Core → Acted
  taken_out vs d = elim vs [ [] ↦ stuck | w ∷ ws ↦ giving w d ]

  out_of_none : (d : Core) (vs : List ℤ) → length vs ≡ 0 → Acts m (taken_out vs d) m actings.Stuck
  out_of_none d [] h = (refl, refl)
  out_of_none d (v ∷ vs) h = absurd (omega arith)

  element_missing_of : (xs : List Array) → length (elements_on_top xs) ≡ 0 → Acts m (elim xs [ [] ↦ stuck | y ∷ ys ↦ taken_out y.elements (with_arrays m.core ys) ]) m actings.Stuck
  element_missing_of [] h = (refl, refl)
  element_missing_of (y ∷ ys) h = out_of_none (with_arrays m.core ys) y.elements h

  pub element_missing : length (elements_on_top m.core.arrays) ≡ 0 → Acts m (stack_effect a.only_element m.core) m actings.Stuck
  element_missing h = element_missing_of m.core.arrays h

  element_of : (e : Kept) (v : ℤ) (vs : List ℤ) (xs : List Array) → elements_on_top xs ≡ v ∷ vs → e ≡ with_core m (pushed v (with_arrays m.core (drop 1 xs))) → Acts m (elim xs [ [] ↦ stuck | y ∷ ys ↦ taken_out y.elements (with_arrays m.core ys) ]) e actings.Done
  element_of e v vs [] h g = absurd (cc)
  element_of e v vs (y ∷ ys) h g = subst (λ ws. Acts m (taken_out ws (with_arrays m.core ys)) e actings.Done) (sym h) (refl, g)

  pub element_there : (e : Kept) (v : ℤ) (vs : List ℤ) → elements_on_top m.core.arrays ≡ v ∷ vs → e ≡ with_core m (pushed v (with_arrays m.core (drop 1 m.core.arrays))) → Acts m (stack_effect a.only_element m.core) e actings.Done
  element_there e v vs h g = element_of e v vs m.core.arrays h g

  some_of : (xs : List Array) (v : ℤ) (vs : List ℤ) → elements_on_top xs ≡ v ∷ vs → 0 < length xs
  some_of [] v vs h = absurd (cc)
  some_of (y ∷ ys) v vs h = omega arith

  pub some_array : (v : ℤ) (vs : List ℤ) → elements_on_top m.core.arrays ≡ v ∷ vs → 0 < length m.core.arrays
  some_array v vs h = some_of m.core.arrays v vs h

  -- evaluation cells for each element
  abbrev cells_of : Array → Acted
  cells_of x = unless room (nat_le (m.core.used + length x.elements) 65536) (goes_to (record m.core { used = m.core.used + length x.elements }))

  seen_none : (f : Array → Acted) (xs : List Array) → length xs < 1 → Acts m (elim xs [ [] ↦ stuck | y ∷ ys ↦ f y ]) m actings.Stuck
  seen_none f [] h = (refl, refl)
  seen_none f (y ∷ ys) h = absurd (omega arith)

  pub cells_missing : length m.core.arrays < 1 → Acts m (stack_effect a.take_cells m.core) m actings.Stuck
  cells_missing h = seen_none cells_of m.core.arrays h

  full_of : (xs : List Array) → 1 ≤ length xs → 65536 < m.core.used + length (elements_on_top xs) → Acts m (elim xs [ [] ↦ stuck | y ∷ ys ↦ cells_of y ]) m (actings.Fault 11)
  full_of [] h l = absurd (omega arith)
  full_of (y ∷ ys) h l = rw (lt-leb (m.core.used + length y.elements) 65536 l) (refl, refl)

  pub cells_full : 1 ≤ length m.core.arrays → 65536 < m.core.used + length (elements_on_top m.core.arrays) → Acts m (stack_effect a.take_cells m.core) m (actings.Fault 11)
  cells_full h l = full_of m.core.arrays h l

  taken_of : (e : Kept) (xs : List Array) → 1 ≤ length xs → m.core.used + length (elements_on_top xs) ≤ 65536 → e ≡ with_core m (record m.core { used = m.core.used + length (elements_on_top xs) }) → Acts m (elim xs [ [] ↦ stuck | y ∷ ys ↦ cells_of y ]) e actings.Done
  taken_of e [] h l g = absurd (omega arith)
  taken_of e (y ∷ ys) h l g = rw (le-leb (m.core.used + length y.elements) 65536 l) (refl, g)

  pub cells_taken : (e : Kept) → 1 ≤ length m.core.arrays → m.core.used + length (elements_on_top m.core.arrays) ≤ 65536 → e ≡ with_core m (record m.core { used = m.core.used + length (elements_on_top m.core.arrays) }) → Acts m (stack_effect a.take_cells m.core) e actings.Done
  cells_taken e h l g = taken_of e m.core.arrays h l g

  -- elements of a kind
  abbrev fitting : Kind → Array → Acted
  fitting k x = unless overflow (list_all (fits_kind k) x.elements) (goes_to m.core)

  pub fits_each_missing : (k : Kind) → length m.core.arrays < 1 → Acts m (operator_effect (a.fits_each k) m.core) m actings.Stuck
  fits_each_missing k h = seen_none (fitting k) m.core.arrays h

  fails_of : (k : Kind) (xs : List Array) → 1 ≤ length xs → list_all (fits_kind k) (elements_on_top xs) ≡ false → Acts m (elim xs [ [] ↦ stuck | y ∷ ys ↦ fitting k y ]) m (actings.Fault 1)
  fails_of k [] h f = absurd (omega arith)
  fails_of k (y ∷ ys) h f = subst (λ b. Acts m (unless overflow b (goes_to m.core)) m (actings.Fault 1)) (sym f) (refl, refl)

  pub fits_each_fails : (k : Kind) → 1 ≤ length m.core.arrays → list_all (fits_kind k) (elements_on_top m.core.arrays) ≡ false → Acts m (operator_effect (a.fits_each k) m.core) m (actings.Fault 1)
  fits_each_fails k h f = fails_of k m.core.arrays h f

  holds_of : (k : Kind) (xs : List Array) → 1 ≤ length xs → list_all (fits_kind k) (elements_on_top xs) ≡ true → Acts m (elim xs [ [] ↦ stuck | y ∷ ys ↦ fitting k y ]) m actings.Done
  holds_of k [] h f = absurd (omega arith)
  holds_of k (y ∷ ys) h f = subst (λ b. Acts m (unless overflow b (goes_to m.core)) m actings.Done) (sym f) (refl, refl)

  pub fits_each_holds : (k : Kind) → 1 ≤ length m.core.arrays → list_all (fits_kind k) (elements_on_top m.core.arrays) ≡ true → Acts m (operator_effect (a.fits_each k) m.core) m actings.Done
  fits_each_holds k h f = holds_of k m.core.arrays h f
