-- Places on the stack, bounds of array values and of sections, and what is along a dimension.
use Rattle.std.proofs.Common.{◌≡◌, ℕ, zero, suc, ◌+◌, ◌*◌, ◌-◌, ◌^◌, ◌<◌, ◌≤◌, ℤ, pos, inl, inr, true, false, List, [], ◌∷◌, length, take, drop, refl, ap, sym, ◌∙◌, subst, arith}
use Rattle.std.specs.Prelude.{Option, Some, None, slice_get, min, not, ◌==◌}
use Rattle.std.proofs.lemmas.Bool.{le-leb, lt-leb, cases_Bool}
use Rattle.std.proofs.lemmas.List.{length-reverse, length-take}
use Rattle.std.proofs.lemmas.List.Sums.{sum_by-cons}
use Rattle.caf_base.specs.declared.value.Kind.TheVariants as kinds
use Rattle.caf_base.specs.Arithmetic.{fits_kind, natural, truth}
use Rattle.coarray_types.specs.Places.{size_of}
use Rattle.walk_theory.specs.Language.{goes_to, faults, stuck}
use Rattle.walk_theory.specs.Terms.{Found, found, at_fault}
use Rattle.image_acts.specs.Acts as a
use Rattle.image_acts.specs.Core.{Core, Array, with_values, with_array, elements_in, pushed}
use Rattle.image_acts.specs.Faults.{shape_fault}
use Rattle.image_acts.specs.Frames.{pairs_in, pairs_numbers}
use Rattle.image_acts.specs.Places.{place_in, place_size, extents_of, cells_of}
use Rattle.image_acts.specs.Taking.{Acted, found_in, unless, taking_one, taking_array, seeing_array, taking, giving, telling}
use Rattle.image_acts.specs.Operate.Stack.{stack_effect}
use Rattle.image_acts.specs.Operate.Bounds as b
use Rattle.image_acts.specs.Operate.Bounds.{bounds_effect, same_extents, from_one, bounds_on_top, of_default_kind}
use Rattle.array_places.specs.Bounds as p
use Rattle.array_places.specs.Bounds.{in_kind_4, size_found, found_of, along, length_of, lower_of, upper_of}
use Rattle.array_values.specs.Values.{row_of, extents_on_top, elements_on_top}
use Rattle.image_state.specs.Kept.{Kept}
use Rattle.image_state.specs.declared.state.Acting.{Acting}
use Rattle.image_state.specs.declared.state.Acting.TheVariants as actings
use Rattle.image_state.specs.Acting.{with_core, Acts}
use Rattle.image_state.specs.Arrays.{with_arrays}
use Rattle.image_state.specs.Places.{place_at, without_tops}
use Rattle.image_state.proofs.Taking.{one_taken, none_taken, seen, unseen, took, took_none}

pub place_short : (d r : ℕ) (vs : List ℤ) → r ≤ 3 → length (place_at d r vs) ≤ 7
place_short d r vs h = (let l = length-reverse (take (1 + (2 * r)) (drop d vs)) in let k = length-take (1 + (2 * r)) (drop d vs) in omega arith)

pub none_or_some : (n : ℕ) → not (min n (2 ^ 64 - 1) == 0) ≡ not (n == 0)
none_or_some zero = refl
none_or_some (suc n) = (let some : (min (suc n) (2 ^ 64 - 1) == 0) ≡ false = grind (arith) in let more : (suc n == 0) ≡ false = grind (arith) in ap not some ∙ sym (ap not more))

pub pairs_long : (ns : List ℕ) → length (pairs_numbers (from_one ns)) ≡ 2 * length ns
pairs_long [] = refl
pairs_long (n ∷ ns) = (let h = pairs_long ns in omega arith)

pub top_and_others : (xs : List Array) → elements_in xs ≡ length (elements_on_top xs) + elements_in (drop 1 xs)
top_and_others [] = refl
top_and_others (x ∷ xs) = sum_by-cons (λ (y : Array). length y.elements) x xs

-- arrays that are there, and that aren't
module _ (m : Kept) where
  unseen_array : (f : Array → Acted) (xs : List Array) → length xs ≡ 0 → Acts m (elim xs [ [] ↦ stuck | y ∷ ys ↦ f y ]) m actings.Stuck
  unseen_array f [] h = (refl, refl)
  unseen_array f (y ∷ ys) h = absurd (omega arith)

  untaken_array : (c : Core) (f : Array → Core → Acted) (xs : List Array) → length xs < 1 → Acts m (elim xs [ [] ↦ stuck | y ∷ ys ↦ f y (with_arrays c ys) ]) m actings.Stuck
  untaken_array c f [] h = (refl, refl)
  untaken_array c f (y ∷ ys) h = absurd (omega arith)

  -- the shape of the top array
  module _ (d r : ℕ) where
    abbrev shaped : List ℤ → Acted
    shaped ns = seeing_array m.core (λ x. unless shape_fault (same_extents x.extents (extents_of (place_in ns))) (goes_to m.core))

    pub shape_without_place : length m.core.values < d + place_size r → Acts m (bounds_effect (a.same_shape d r) m.core) m actings.Stuck
    shape_without_place h = unseen m d (place_size r) shaped (omega arith) h

    pub shape_without_array : d + place_size r ≤ length m.core.values → length m.core.arrays ≡ 0 → Acts m (bounds_effect (a.same_shape d r) m.core) m actings.Stuck
    shape_without_array h l = seen m m actings.Stuck d (place_size r) shaped h (unseen_array (λ x. unless shape_fault (same_extents x.extents (extents_of (place_in (place_at d r m.core.values)))) (goes_to m.core)) m.core.arrays l)

    agrees_of : (ns : List ℕ) (xs : List Array) → 0 < length xs → same_extents (extents_on_top xs) ns ≡ true → Acts m (elim xs [ [] ↦ stuck | y ∷ ys ↦ unless shape_fault (same_extents y.extents ns) (goes_to m.core) ]) m actings.Done
    agrees_of ns [] h e = absurd (omega arith)
    agrees_of ns (y ∷ ys) h e = subst (λ t. Acts m (unless shape_fault t (goes_to m.core)) m actings.Done) (sym e) (refl, refl)

    differs_of : (ns : List ℕ) (xs : List Array) → 0 < length xs → same_extents (extents_on_top xs) ns ≡ false → Acts m (elim xs [ [] ↦ stuck | y ∷ ys ↦ unless shape_fault (same_extents y.extents ns) (goes_to m.core) ]) m (actings.Fault 12)
    differs_of ns [] h e = absurd (omega arith)
    differs_of ns (y ∷ ys) h e = subst (λ t. Acts m (unless shape_fault t (goes_to m.core)) m (actings.Fault 12)) (sym e) (refl, refl)

    module _ (es ns : List ℕ) (h : d + place_size r ≤ length m.core.values) (l : 0 < length m.core.arrays) (e : es ≡ extents_on_top m.core.arrays) (n : ns ≡ extents_of (place_in (place_at d r m.core.values))) where
      same : same_extents es ns ≡ same_extents (extents_on_top m.core.arrays) (extents_of (place_in (place_at d r m.core.values)))
      same = rw (e, n) refl

      pub shape_agrees : same_extents es ns ≡ true → Acts m (bounds_effect (a.same_shape d r) m.core) m actings.Done
      shape_agrees t = seen m m actings.Done d (place_size r) shaped h (agrees_of (extents_of (place_in (place_at d r m.core.values))) m.core.arrays l (sym same ∙ t))

      pub shape_differs : same_extents es ns ≡ false → Acts m (bounds_effect (a.same_shape d r) m.core) m (actings.Fault 12)
      shape_differs t = seen m m (actings.Fault 12) d (place_size r) shaped h (differs_of (extents_of (place_in (place_at d r m.core.values))) m.core.arrays l (sym same ∙ t))

    -- cells at a place
    pub cells_unseen : length m.core.values < d + place_size r → Acts m (bounds_effect (a.some_cells d r) m.core) m actings.Stuck
    cells_unseen h = unseen m d (place_size r) (λ ns. telling (not (cells_of (place_in ns) == 0)) m.core) (omega arith) h

    pub cells_told : (e : Kept) (w : Acting) → d + place_size r ≤ length m.core.values → Acts m (giving (truth (not (cells_of (place_in (place_at d r m.core.values)) == 0))) m.core) e w → Acts m (bounds_effect (a.some_cells d r) m.core) e w
    cells_told e w h g = seen m e w d (place_size r) (λ ns. telling (not (cells_of (place_in ns) == 0)) m.core) h g

  -- a reference that names no cell
  module _ (r : ℕ) where
    abbrev unread : List ℤ → Core → Acted
    unread ns e = goes_to (pushed (pos 0) (with_array (record { extents = extents_of (place_in ns); elements = [] }) e))

    nothing_missing_of : (vs : List ℤ) → m.core.values ≡ vs → length vs < 1 + place_size r → Acts m (stack_effect (a.nothing_read r) m.core) m actings.Stuck
    nothing_missing_of [] e h = none_taken m (λ o d. taking (place_size r) d unread) e
    nothing_missing_of (o ∷ vs) e h = one_taken m m actings.Stuck o vs (λ o d. taking (place_size r) d unread) e (took_none m (with_values m.core vs) (place_size r) unread (omega arith))

    pub nothing_missing : length m.core.values < 1 + place_size r → Acts m (stack_effect (a.nothing_read r) m.core) m actings.Stuck
    nothing_missing h = nothing_missing_of m.core.values refl h

    nothing_of : (e : Kept) (w : Acting) (vs : List ℤ) → m.core.values ≡ vs → 1 + place_size r ≤ length vs
        → Acts m (giving (pos 0) (with_array (record { extents = extents_of (place_in (place_at 1 r vs)); elements = [] }) (with_values m.core (drop (1 + place_size r) vs)))) e w → Acts m (stack_effect (a.nothing_read r) m.core) e w
    nothing_of e w [] q h g = absurd (omega arith)
    nothing_of e w (o ∷ vs) q h g =
        let s : 1 + place_size r ≡ suc (place_size r) = omega arith in
        one_taken m e w o vs (λ o d. taking (place_size r) d unread) q (took m e w (with_values m.core vs) (place_size r) unread (omega arith)
        (subst (λ n. Acts m (giving (pos 0) (with_array (record { extents = extents_of (place_in (place_at 1 r (o ∷ vs))); elements = [] }) (with_values m.core (drop n (o ∷ vs))))) e w) s g))

    pub nothing_put : (e : Kept) (w : Acting) (es : List ℕ) (n : ℕ) → 1 + place_size r ≤ length m.core.values → es ≡ extents_of (place_in (place_at 1 r m.core.values)) → n ≡ 1 + place_size r
        → Acts m (giving (pos 0) (with_array (record { extents = es; elements = [] }) (with_values m.core (drop n m.core.values)))) e w → Acts m (stack_effect (a.nothing_read r) m.core) e w
    nothing_put e w es n h i j g =
        nothing_of e w m.core.values refl h
        (subst (λ k. Acts m (giving (pos 0) (with_array (record { extents = extents_of (place_in (place_at 1 r m.core.values)); elements = [] }) (with_values m.core (drop k m.core.values)))) e w) j
        (subst (λ ns. Acts m (giving (pos 0) (with_array (record { extents = ns; elements = [] }) (with_values m.core (drop n m.core.values)))) e w) i g))

    -- bounds of a section
    abbrev bounded : List ℤ → Core → Acted
    bounded ns d = bounds_on_top (from_one (extents_of (place_in ns))) d

    pub section_missing : length m.core.values < 0 + place_size r → Acts m (bounds_effect (a.section_bounds r) m.core) m actings.Stuck
    section_missing h = took_none m m.core (place_size r) bounded (omega arith)

    pub section_full : (es : List ℕ) → 0 + place_size r ≤ length m.core.values → es ≡ extents_of (place_in (place_at 0 r m.core.values)) → 524288 < elements_in m.core.arrays + 2 * length es → Acts m (bounds_effect (a.section_bounds r) m.core) m (actings.Fault 11)
    section_full es h i l =
        let ns = extents_of (place_in (place_at 0 r m.core.values)) in
        let k = pairs_long ns in
        let j = ap length i in
        took m m (actings.Fault 11) m.core (place_size r) bounded (omega arith) (rw (lt-leb (elements_in m.core.arrays + length (pairs_numbers (from_one ns))) 524288 (omega arith)) (refl, refl))

    pub section_bounded : (e : Kept) (es : List ℕ) (n : ℕ) → 0 + place_size r ≤ length m.core.values → es ≡ extents_of (place_in (place_at 0 r m.core.values)) → elements_in m.core.arrays + 2 * length es ≤ 524288 → n ≡ place_size r
        → e ≡ with_core m (with_array (row_of (pairs_numbers (from_one es))) (with_values m.core (drop n m.core.values))) → Acts m (bounds_effect (a.section_bounds r) m.core) e actings.Done
    section_bounded e es n h i l j g =
        let ns = extents_of (place_in (place_at 0 r m.core.values)) in
        let k = pairs_long ns in
        let q = ap length i in
        took m e actings.Done m.core (place_size r) bounded (omega arith) (rw (le-leb (elements_in m.core.arrays + length (pairs_numbers (from_one ns))) 524288 (omega arith)) (
          refl,
          g ∙ ap (λ (t : ℕ). with_core m (with_array (row_of (pairs_numbers (from_one es))) (with_values m.core (drop t m.core.values)))) j
              ∙ ap (λ (ks : List ℕ). with_core m (with_array (row_of (pairs_numbers (from_one ks))) (with_values m.core (drop (place_size r) m.core.values)))) i,
        ))

  -- bounds of an array value
  pub value_missing : length m.core.arrays < 1 → Acts m (bounds_effect a.value_bounds m.core) m actings.Stuck
  value_missing h = untaken_array m.core (λ x d. bounds_on_top (from_one x.extents) d) m.core.arrays h

  value_full_of : (xs : List Array) → 1 ≤ length xs → 524288 < elements_in (drop 1 xs) + length (pairs_numbers (from_one (extents_on_top xs))) → Acts m (elim xs [ [] ↦ stuck | y ∷ ys ↦ bounds_on_top (from_one y.extents) (with_arrays m.core ys) ]) m (actings.Fault 11)
  value_full_of [] h l = absurd (omega arith)
  value_full_of (y ∷ ys) h l = rw (lt-leb (elements_in ys + length (pairs_numbers (from_one y.extents))) 524288 l) (refl, refl)

  pub value_full : (es : List ℕ) → 1 ≤ length m.core.arrays → es ≡ extents_on_top m.core.arrays → 524288 < elements_in (drop 1 m.core.arrays) + 2 * length es → Acts m (bounds_effect a.value_bounds m.core) m (actings.Fault 11)
  value_full es h i l = (let k = pairs_long (extents_on_top m.core.arrays) in let j = ap length i in value_full_of m.core.arrays h (omega arith))

  value_of : (e : Kept) (xs : List Array) → 1 ≤ length xs → elements_in (drop 1 xs) + length (pairs_numbers (from_one (extents_on_top xs))) ≤ 524288
      → e ≡ with_core m (with_array (row_of (pairs_numbers (from_one (extents_on_top xs)))) (with_arrays m.core (drop 1 xs))) → Acts m (elim xs [ [] ↦ stuck | y ∷ ys ↦ bounds_on_top (from_one y.extents) (with_arrays m.core ys) ]) e actings.Done
  value_of e [] h l g = absurd (omega arith)
  value_of e (y ∷ ys) h l g = rw (le-leb (elements_in ys + length (pairs_numbers (from_one y.extents))) 524288 l) (refl, g)

  pub value_bounded : (e : Kept) (es : List ℕ) → 1 ≤ length m.core.arrays → es ≡ extents_on_top m.core.arrays → elements_in (drop 1 m.core.arrays) + 2 * length es ≤ 524288
      → e ≡ with_core m (with_array (row_of (pairs_numbers (from_one es))) (with_arrays m.core (drop 1 m.core.arrays))) → Acts m (bounds_effect a.value_bounds m.core) e actings.Done
  value_bounded e es h i l g =
      let k = pairs_long (extents_on_top m.core.arrays) in
      let j = ap length i in
      value_of e m.core.arrays h (omega arith) (g ∙ ap (λ (ks : List ℕ). with_core m (with_array (row_of (pairs_numbers (from_one ks))) (with_arrays m.core (drop 1 m.core.arrays)))) i)

  -- the size of an array with the bounds in the top one
  pub size_missing : length m.core.arrays < 1 → Acts m (bounds_effect a.size m.core) m actings.Stuck
  size_missing h = untaken_array m.core (λ x d. of_default_kind (pos (size_of (pairs_in x.elements))) d) m.core.arrays h

-- a number of kind 4, or the run fault Overflow
kind_found : (v : ℤ) (d : Core) → of_default_kind v d ≡ found_in (in_kind_4 v) (λ z. giving z d)
kind_found v d = elim (cases_Bool (fits_kind kinds.I4 v)) [ inl t ↦ rw t refl | inr f ↦ rw f refl ]

module _ (m : Kept) where
  size_of_top : (e : Kept) (w : Acting) (xs : List Array) → 1 ≤ length xs → Acts m (found_in (size_found (elements_on_top xs)) (λ z. giving z (with_arrays m.core (drop 1 xs)))) e w
      → Acts m (elim xs [ [] ↦ stuck | y ∷ ys ↦ of_default_kind (pos (size_of (pairs_in y.elements))) (with_arrays m.core ys) ]) e w
  size_of_top e w [] h g = absurd (omega arith)
  size_of_top e w (y ∷ ys) h g = subst (λ x. Acts m x e w) (sym (kind_found (pos (size_of (pairs_in y.elements))) (with_arrays m.core ys))) g

  pub size_faults : (k : ℕ) → 1 ≤ length m.core.arrays → at_fault k ≡ size_found (elements_on_top m.core.arrays) → Acts m (bounds_effect a.size m.core) m (actings.Fault k)
  size_faults k h r = size_of_top m (actings.Fault k) m.core.arrays h (subst (λ x. Acts m (found_in x (λ z. giving z (with_arrays m.core (drop 1 m.core.arrays)))) m (actings.Fault k)) r (refl, refl))

  pub size_told : (e : Kept) (w : Acting) (n : ℤ) → 1 ≤ length m.core.arrays → found n ≡ size_found (elements_on_top m.core.arrays) → Acts m (giving n (with_arrays m.core (drop 1 m.core.arrays))) e w → Acts m (bounds_effect a.size m.core) e w
  size_told e w n h r g = size_of_top e w m.core.arrays h (subst (λ x. Acts m (found_in x (λ z. giving z (with_arrays m.core (drop 1 m.core.arrays)))) e w) r g)

-- along a dimension
dimension_found : (f : ℤ × ℤ → ℤ) (bs : List (ℤ × ℤ)) (n : ℕ) (d : Core) → b.numbered bs n (λ x. of_default_kind (f x) d) ≡ found_in (found_of f (p.numbered bs n)) (λ z. giving z d)
dimension_found f bs zero d = refl
dimension_found f bs (suc i) d = there (slice_get bs i)
  where
    there : (o : Option (ℤ × ℤ)) → elim o [ None ↦ faults 3 | Some x ↦ of_default_kind (f x) d ] ≡ found_in (found_of f o) (λ z. giving z d)
    there None = refl
    there (Some x) = kind_found (f x) d

module _ (m : Kept) where
  module _ (f : ℤ × ℤ → ℤ) where
    abbrev dimension : ℤ → Core → Acted
    dimension v d = taking_array d (λ x e. b.numbered (pairs_in x.elements) (natural v) (λ y. of_default_kind (f y) e))

    pub without_array : (v : ℤ) (vs : List ℤ) → m.core.values ≡ v ∷ vs → length m.core.arrays < 1 → Acts m (taking_one m.core dimension) m actings.Stuck
    without_array v vs h l = one_taken m m actings.Stuck v vs dimension h (untaken_array m (with_values m.core vs) (λ x e. b.numbered (pairs_in x.elements) (natural v) (λ y. of_default_kind (f y) e)) m.core.arrays l)

    found_of_top : (e : Kept) (w : Acting) (v : ℤ) (c : Core) (xs : List Array) → 1 ≤ length xs → Acts m (found_in (along f (elements_on_top xs) v) (λ z. giving z (with_arrays c (drop 1 xs)))) e w
        → Acts m (elim xs [ [] ↦ stuck | y ∷ ys ↦ b.numbered (pairs_in y.elements) (natural v) (λ x. of_default_kind (f x) (with_arrays c ys)) ]) e w
    found_of_top e w v c [] h g = absurd (omega arith)
    found_of_top e w v c (y ∷ ys) h g = subst (λ x. Acts m x e w) (sym (dimension_found f (pairs_in y.elements) (natural v) (with_arrays c ys))) g

    pub found_along : (e : Kept) (w : Acting) (v : ℤ) (r : Found ℤ) → m.core.values ≡ v ∷ drop 1 m.core.values → 1 ≤ length m.core.arrays → r ≡ along f (elements_on_top m.core.arrays) v
        → Acts m (found_in r (λ z. giving z (without_tops m.core))) e w → Acts m (taking_one m.core dimension) e w
    found_along e w v r h l q g = one_taken m e w v (drop 1 m.core.values) dimension h
        (found_of_top e w v (with_values m.core (drop 1 m.core.values)) m.core.arrays l (subst (λ x. Acts m (found_in x (λ z. giving z (without_tops m.core))) e w) q g))

  pub extent_missing : m.core.values ≡ [] → Acts m (bounds_effect a.extent m.core) m actings.Stuck
  extent_missing h = none_taken m (dimension length_of) h

  pub extent_without_array : (v : ℤ) (vs : List ℤ) → m.core.values ≡ v ∷ vs → length m.core.arrays < 1 → Acts m (bounds_effect a.extent m.core) m actings.Stuck
  extent_without_array v vs h l = without_array length_of v vs h l

  pub extent_found : (e : Kept) (w : Acting) (v : ℤ) (r : Found ℤ) → m.core.values ≡ v ∷ drop 1 m.core.values → 1 ≤ length m.core.arrays → r ≡ along length_of (elements_on_top m.core.arrays) v
      → Acts m (found_in r (λ z. giving z (without_tops m.core))) e w → Acts m (bounds_effect a.extent m.core) e w
  extent_found e w v r h l q g = found_along length_of e w v r h l q g

  pub lower_missing : m.core.values ≡ [] → Acts m (bounds_effect a.lower_bound m.core) m actings.Stuck
  lower_missing h = none_taken m (dimension lower_of) h

  pub lower_without_array : (v : ℤ) (vs : List ℤ) → m.core.values ≡ v ∷ vs → length m.core.arrays < 1 → Acts m (bounds_effect a.lower_bound m.core) m actings.Stuck
  lower_without_array v vs h l = without_array lower_of v vs h l

  pub lower_found : (e : Kept) (w : Acting) (v : ℤ) (r : Found ℤ) → m.core.values ≡ v ∷ drop 1 m.core.values → 1 ≤ length m.core.arrays → r ≡ along lower_of (elements_on_top m.core.arrays) v
      → Acts m (found_in r (λ z. giving z (without_tops m.core))) e w → Acts m (bounds_effect a.lower_bound m.core) e w
  lower_found e w v r h l q g = found_along lower_of e w v r h l q g

  pub upper_missing : m.core.values ≡ [] → Acts m (bounds_effect a.upper_bound m.core) m actings.Stuck
  upper_missing h = none_taken m (dimension upper_of) h

  pub upper_without_array : (v : ℤ) (vs : List ℤ) → m.core.values ≡ v ∷ vs → length m.core.arrays < 1 → Acts m (bounds_effect a.upper_bound m.core) m actings.Stuck
  upper_without_array v vs h l = without_array upper_of v vs h l

  pub upper_found : (e : Kept) (w : Acting) (v : ℤ) (r : Found ℤ) → m.core.values ≡ v ∷ drop 1 m.core.values → 1 ≤ length m.core.arrays → r ≡ along upper_of (elements_on_top m.core.arrays) v
      → Acts m (found_in r (λ z. giving z (without_tops m.core))) e w → Acts m (bounds_effect a.upper_bound m.core) e w
  upper_found e w v r h l q g = found_along upper_of e w v r h l q g
