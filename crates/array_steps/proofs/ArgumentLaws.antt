-- Arguments by copying in and out.
use Rattle.std.proofs.Common.{◌≡◌, ℕ, ◌+◌, ◌<◌, ◌≤◌, ℤ, Bool, true, false, List, [], ◌∷◌, length, drop, map, refl, ap, sym, ◌∙◌, subst, arith}
use Rattle.std.specs.Prelude.{Option, Some, None, is_some, ◌&&◌, nat_le, nat_lt, ◌==◌}
use Rattle.std.proofs.lemmas.Bool.{eqb-true, le-leb, lt-leb}
use Rattle.coarray_types.specs.Places.{extent_of}
use Rattle.walk_theory.specs.Language.{goes_to, stuck}
use Rattle.image_acts.specs.Acts as a
use Rattle.image_acts.specs.Acts.{here}
use Rattle.image_acts.specs.Core.{Core, Array, Local, with_array, elements_in}
use Rattle.image_acts.specs.Faults.{room, shape_fault}
use Rattle.image_acts.specs.Frames.{array_in, local_size, with_array_in}
use Rattle.image_acts.specs.Places.{are_small}
use Rattle.image_acts.specs.Taking.{Acted, given, unless}
use Rattle.image_acts.specs.Operate.Bounds.{same_extents}
use Rattle.image_acts.specs.Operate.Calling.{call_effect, extents_of_bounds, has_extents}
use Rattle.array_values.specs.Values.{elements_on_top, extents_on_top}
use Rattle.local_arrays.specs.Arrays.{bounds_in, elements_of, refilled}
use Rattle.image_state.specs.Arrays.{with_arrays}
use Rattle.image_state.specs.Kept.{Kept}
use Rattle.image_state.specs.declared.state.Acting.TheVariants as actings
use Rattle.image_state.specs.Acting.{with_core, Acts}
use Rattle.array_steps.specs.Arguments.{has_shape}

pub shape_is : (ns : List ℕ) (n : ℕ) (o : Option Local) (bs : List (ℤ × ℤ)) (xs : List ℤ) → bounds_in o ≡ Some bs → elements_of o ≡ Some xs → has_shape ns n o ≡ (same_extents ns (map extent_of bs) && (n == length xs))
shape_is ns n None bs xs h i = absurd (cc)
shape_is ns n (Some l) bs xs h i = (let j : l.bounds ≡ bs = cc in let k : l.elements ≡ xs = cc in ap (λ t. same_extents ns (map extent_of t) && (n == length l.elements)) j ∙ ap (λ t. same_extents ns (map extent_of bs) && (n == length t)) k)

pub shape_there : (o : Option Local) (xs : List ℤ) → elements_of o ≡ Some xs → is_some o ≡ true
shape_there None xs h = absurd (cc)
shape_there (Some l) xs h = refl

both_true : (t u : Bool) → (t && u) ≡ true → u ≡ true
both_true true u h = h
both_true false u h = absurd (cc)

pub shape_size : (ns : List ℕ) (n : ℕ) (o : Option Local) → has_shape ns n o ≡ true → local_size o ≡ n
shape_size ns n None h = absurd (cc)
shape_size ns n (Some l) h = sym (eqb-true n (length l.elements) (both_true (same_extents ns (extents_of_bounds l)) (n == length l.elements) h))

module _ (m : Kept) (x : ℕ) where
  abbrev array : Option Local
  array = array_in here x m.core

  -- the top array value becomes the elements of an array
  abbrev copying : Array → Core → Acted
  copying y d = given (array_in here x d) (λ l. unless shape_fault (same_extents y.extents (extents_of_bounds l) && (length y.elements == length l.elements)) (goes_to (with_array_in here x (Some (record l { elements = y.elements })) d)))

  value_missing_of : (xs : List Array) → length xs < 1 → Acts m (elim xs [ [] ↦ stuck | y ∷ ys ↦ copying y (with_arrays m.core ys) ]) m actings.Stuck
  value_missing_of [] h = (refl, refl)
  value_missing_of (y ∷ ys) h = absurd (omega arith)

  pub value_missing : length m.core.arrays < 1 → Acts m (call_effect (a.copy_in x) m.core) m actings.Stuck
  value_missing h = value_missing_of m.core.arrays h

  array_missing_of : (xs : List Array) → array ≡ None → Acts m (elim xs [ [] ↦ stuck | y ∷ ys ↦ copying y (with_arrays m.core ys) ]) m actings.Stuck
  array_missing_of [] h = (refl, refl)
  array_missing_of (y ∷ ys) h = subst (λ o. Acts m (given o (λ l. unless shape_fault (same_extents y.extents (extents_of_bounds l) && (length y.elements == length l.elements)) (goes_to (with_array_in here x (Some (record l { elements = y.elements })) (with_arrays m.core ys))))) m actings.Stuck) (sym h) (refl, refl)

  pub array_missing : array ≡ None → Acts m (call_effect (a.copy_in x) m.core) m actings.Stuck
  array_missing h = array_missing_of m.core.arrays h

  module _ (e : Kept) (y : Array) (d : Core) where
    misfit_of : (o : Option Local) → is_some o ≡ true → has_shape y.extents (length y.elements) o ≡ false
        → Acts m (given o (λ l. unless shape_fault (same_extents y.extents (extents_of_bounds l) && (length y.elements == length l.elements)) (goes_to (with_array_in here x (Some (record l { elements = y.elements })) d)))) m (actings.Fault 12)
    misfit_of None i h = absurd (cc)
    misfit_of (Some k) i h = rw h (refl, refl)

    fit_of : (o : Option Local) → has_shape y.extents (length y.elements) o ≡ true → e ≡ with_core m (with_array_in here x (refilled y.elements o) d)
        → Acts m (given o (λ l. unless shape_fault (same_extents y.extents (extents_of_bounds l) && (length y.elements == length l.elements)) (goes_to (with_array_in here x (Some (record l { elements = y.elements })) d)))) e actings.Done
    fit_of None h g = absurd (cc)
    fit_of (Some k) h g = rw h (refl, g)

  misfits_of : (xs : List Array) → 1 ≤ length xs → is_some array ≡ true → has_shape (extents_on_top xs) (length (elements_on_top xs)) array ≡ false → Acts m (elim xs [ [] ↦ stuck | y ∷ ys ↦ copying y (with_arrays m.core ys) ]) m (actings.Fault 12)
  misfits_of [] n i h = absurd (omega arith)
  misfits_of (y ∷ ys) n i h = misfit_of m y (with_arrays m.core ys) array i h

  pub misfits : 1 ≤ length m.core.arrays → is_some array ≡ true → has_shape (extents_on_top m.core.arrays) (length (elements_on_top m.core.arrays)) array ≡ false → Acts m (call_effect (a.copy_in x) m.core) m (actings.Fault 12)
  misfits n i h = misfits_of m.core.arrays n i h

  copied_in_of : (e : Kept) (xs : List Array) → 1 ≤ length xs → has_shape (extents_on_top xs) (length (elements_on_top xs)) array ≡ true
      → e ≡ with_core m (with_arrays (with_array_in here x (refilled (elements_on_top xs) array) m.core) (drop 1 xs)) → Acts m (elim xs [ [] ↦ stuck | y ∷ ys ↦ copying y (with_arrays m.core ys) ]) e actings.Done
  copied_in_of e [] n h g = absurd (omega arith)
  copied_in_of e (y ∷ ys) n h g = fit_of e y (with_arrays m.core ys) array h g

  pub copied_in : (d e : Kept) → 1 ≤ length m.core.arrays → has_shape (extents_on_top m.core.arrays) (length (elements_on_top m.core.arrays)) array ≡ true
      → d ≡ with_core m (with_array_in here x (refilled (elements_on_top m.core.arrays) array) m.core) → e ≡ with_core d (with_arrays d.core (drop 1 d.core.arrays)) → Acts m (call_effect (a.copy_in x) m.core) e actings.Done
  copied_in d e n h f g = copied_in_of e m.core.arrays n h (g ∙ ap (λ (t : Kept). with_core t (with_arrays t.core (drop 1 t.core.arrays))) f)

  -- an array as a value
  abbrev copied : Option Local → Acted
  copied o = given o (λ l. unless room (has_extents l && nat_le (elements_in m.core.arrays + length l.elements) 524288) (goes_to (with_array (record { extents = extents_of_bounds l; elements = l.elements }) m.core)))

  pub out_missing : array ≡ None → Acts m (call_effect (a.copy_out x) m.core) m actings.Stuck
  out_missing h = subst (λ o. Acts m (copied o) m actings.Stuck) (sym h) (refl, refl)

  wide_of : (o : Option Local) (bs : List (ℤ × ℤ)) → bounds_in o ≡ Some bs → are_small bs ≡ false → Acts m (copied o) m (actings.Fault 11)
  wide_of None bs h w = absurd (cc)
  wide_of (Some l) bs h w = (let k : l.bounds ≡ bs = cc in rw (ap are_small k ∙ w) (refl, refl))

  pub out_wide : (bs : List (ℤ × ℤ)) → bounds_in array ≡ Some bs → are_small bs ≡ false → Acts m (call_effect (a.copy_out x) m.core) m (actings.Fault 11)
  out_wide bs h w = wide_of array bs h w

  full_of : (t : Bool) (f : Acted) → Acts m (unless room (t && false) f) m (actings.Fault 11)
  full_of true f = (refl, refl)
  full_of false f = (refl, refl)

  out_full_of : (o : Option Local) (bs : List (ℤ × ℤ)) → bounds_in o ≡ Some bs → 524288 < elements_in m.core.arrays + local_size o → Acts m (copied o) m (actings.Fault 11)
  out_full_of None bs h l = absurd (cc)
  out_full_of (Some k) bs h l = rw (lt-leb (elements_in m.core.arrays + length k.elements) 524288 l) (full_of (has_extents k) (goes_to (with_array (record { extents = extents_of_bounds k; elements = k.elements }) m.core)))

  pub out_full : (bs : List (ℤ × ℤ)) → bounds_in array ≡ Some bs → 524288 < elements_in m.core.arrays + local_size array → Acts m (call_effect (a.copy_out x) m.core) m (actings.Fault 11)
  out_full bs h l = out_full_of array bs h l

  copied_out_of : (e : Kept) (o : Option Local) (bs : List (ℤ × ℤ)) (ns : List ℕ) → bounds_in o ≡ Some bs → are_small bs ≡ true → elements_in m.core.arrays + local_size o ≤ 524288 → ns ≡ map extent_of bs
      → ((l : Local) → o ≡ Some l → e ≡ with_core m (with_array (record { extents = ns; elements = l.elements }) m.core)) → Acts m (copied o) e actings.Done
  copied_out_of e None bs ns h w l i g = absurd (cc)
  copied_out_of e (Some k) bs ns h w l i g =
      let q : k.bounds ≡ bs = cc in
      let t : has_extents k ≡ true = ap are_small q ∙ w in
      let j : ns ≡ extents_of_bounds k = i ∙ ap (λ t. map extent_of t) (sym q) in
      rw (t, le-leb (elements_in m.core.arrays + length k.elements) 524288 l) (refl, g k refl ∙ ap (λ (us : List ℕ). with_core m (with_array (record { extents = us; elements = k.elements }) m.core)) j)

  pub copied_out : (e : Kept) (bs : List (ℤ × ℤ)) (ns : List ℕ) → bounds_in array ≡ Some bs → are_small bs ≡ true → elements_in m.core.arrays + local_size array ≤ 524288 → ns ≡ map extent_of bs
      → ((l : Local) → array ≡ Some l → e ≡ with_core m (with_array (record { extents = ns; elements = l.elements }) m.core)) → Acts m (call_effect (a.copy_out x) m.core) e actings.Done
  copied_out e bs ns h w l i g = copied_out_of e array bs ns h w l i g
