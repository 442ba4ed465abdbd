-- A whole allocatable array of rank one with the elements of an array value.
use Rattle.std.proofs.Common.{◌≡◌, ℕ, ◌+◌, ◌-◌, ◌<◌, ◌≤◌, ℤ, true, false, List, [], ◌∷◌, length, drop, refl, ap, sym, ◌∙◌, subst, arith}
use Rattle.std.specs.Prelude.{Option, Some, None, nat_le, cond, ◌==◌}
use Rattle.std.proofs.lemmas.Bool.{eqb-true, le-leb, lt-leb}
use Rattle.walk_theory.specs.Language.{goes_to, stuck}
use Rattle.image_acts.specs.Acts as a
use Rattle.image_acts.specs.Acts.{Scope}
use Rattle.image_acts.specs.Core.{Core, Array, Local}
use Rattle.image_acts.specs.Faults.{room}
use Rattle.image_acts.specs.Frames.{array_in, arrays_of_frames, cells_in_frames, local_size, with_array_in}
use Rattle.image_acts.specs.Taking.{Acted, taking_array, unless}
use Rattle.image_acts.specs.Operate.Variables.{variable_effect, if_room}
use Rattle.array_values.specs.Values.{elements_on_top}
use Rattle.local_arrays.specs.Arrays.{elements_of, from_one, has_length, refilled}
use Rattle.local_arrays.specs.Frames.{with_array}
use Rattle.local_arrays.proofs.CoreLaws.{images_agree, room_agrees}
use Rattle.image_state.specs.Arrays.{with_arrays}
use Rattle.image_state.specs.Kept.{Kept}
use Rattle.image_state.specs.declared.state.Acting.{Acting}
use Rattle.image_state.specs.declared.state.Acting.TheVariants as actings
use Rattle.image_state.specs.Acting.{with_core, Acts}
use Rattle.array_steps.proofs.Changed.{same_beneath, with_beneath, same_values}

-- how many elements an array has
pub none_as_many : (n : ℕ) (o : Option Local) → o ≡ None → has_length n o ≡ false
none_as_many n None h = refl
none_as_many n (Some l) h = absurd (cc)

pub as_many_or_not : (n : ℕ) (o : Option Local) (xs : List ℤ) → elements_of o ≡ Some xs → has_length n o ≡ (length xs == n)
as_many_or_not n None xs h = absurd (cc)
as_many_or_not n (Some l) xs h = (let k : l.elements ≡ xs = cc in ap (λ ys. length ys == n) k)

pub same_size : (n : ℕ) (o : Option Local) → has_length n o ≡ true → local_size o ≡ n
same_size n None h = absurd (cc)
same_size n (Some l) h = eqb-true (length l.elements) n h

pub none_left : (o : Option Local) → o ≡ None → local_size o ≡ 0
none_left None h = refl
none_left (Some l) h = absurd (cc)

pub size_left : (o : Option Local) (xs : List ℤ) → elements_of o ≡ Some xs → local_size o ≡ length xs
size_left None xs h = absurd (cc)
size_left (Some l) xs h = (let k : l.elements ≡ xs = cc in ap length k)

module _ (m : Kept) (s : Scope) (x : ℕ) where
  abbrev array : Option Local
  array = array_in s x m.core

  -- with other elements, or as another array with so many local cells
  abbrev as_many : List ℤ → Core → Acted
  as_many vs d = goes_to (with_array_in s x (refilled vs (array_in s x d)) d)

  abbrev cells_left : List ℤ → Core → ℕ
  cells_left vs d = (d.local_cells - local_size (array_in s x d)) + length vs

  abbrev renewed : List ℤ → Core → Core
  renewed vs d = record (with_array_in s x (Some (from_one vs)) d) { local_cells = cells_left vs d }

  abbrev others : List ℤ → Core → Acted
  others vs d = unless room (nat_le (cells_left vs d) 65536) (if_room (renewed vs d))

  abbrev images : Array → Core → Acted
  images y d = cond (has_length (length y.elements) (array_in s x d)) (as_many y.elements d) (others y.elements d)

  images_by : (e : Kept) (w : Acting) → Acts m (taking_array m.core images) e w → Acts m (variable_effect (a.put_images s x) m.core) e w
  images_by e w g = subst (λ y. Acts m y e w) (sym (images_agree s x m.core)) g

  missing_of : (xs : List Array) → length xs < 1 → Acts m (elim xs [ [] ↦ stuck | y ∷ ys ↦ images y (with_arrays m.core ys) ]) m actings.Stuck
  missing_of [] h = (refl, refl)
  missing_of (y ∷ ys) h = absurd (omega arith)

  pub images_missing : length m.core.arrays < 1 → Acts m (variable_effect (a.put_images s x) m.core) m actings.Stuck
  images_missing h = images_by m actings.Stuck (missing_of m.core.arrays h)

  -- beneath the top array value
  module _ (ys : List Array) where
    abbrev beneath : Core
    beneath = with_arrays m.core ys

    same : array_in s x beneath ≡ array
    same = same_beneath s x ys m.core

  filled_of : (e : Kept) (xs : List Array) → 1 ≤ length xs → has_length (length (elements_on_top xs)) array ≡ true
      → e ≡ with_core m (with_arrays (with_array_in s x (refilled (elements_on_top xs) array) m.core) (drop 1 xs)) → Acts m (elim xs [ [] ↦ stuck | y ∷ ys ↦ images y (with_arrays m.core ys) ]) e actings.Done
  filled_of e [] l t g = absurd (omega arith)
  filled_of e (y ∷ ys) l t g =
      let u : has_length (length y.elements) (array_in s x (beneath ys)) ≡ true = ap (has_length (length y.elements)) (same ys) ∙ t in
      subst (λ b. Acts m (cond b (as_many y.elements (beneath ys)) (others y.elements (beneath ys))) e actings.Done) (sym u) (
        refl,
        g ∙ ap (λ t. with_core m t) (sym (ap (λ o. with_array_in s x (refilled y.elements o) (beneath ys)) (same ys) ∙ with_beneath m.core s x (refilled y.elements array) ys)),
      )

  pub images_filled : (d e : Kept) → 1 ≤ length m.core.arrays → has_length (length (elements_on_top m.core.arrays)) array ≡ true → d ≡ with_core m (with_array_in s x (refilled (elements_on_top m.core.arrays) array) m.core)
      → e ≡ with_core d (with_arrays d.core (drop 1 d.core.arrays)) → Acts m (variable_effect (a.put_images s x) m.core) e actings.Done
  images_filled d e l t f g = images_by e actings.Done (filled_of e m.core.arrays l t
      (g ∙ ap (λ (t : Kept). with_core t (with_arrays t.core (drop 1 t.core.arrays))) f
      ∙ ap (λ (us : List Array). with_core m (with_arrays (with_array_in s x (refilled (elements_on_top m.core.arrays) array) m.core) (drop 1 us))) (same_values m.core s x (refilled (elements_on_top m.core.arrays) array))))

  -- where it has another extent
  abbrev cells_now : List ℤ → ℕ
  cells_now vs = (m.core.local_cells - local_size array) + length vs

  abbrev room_with : List ℤ → ℕ
  room_with vs = cells_in_frames (with_array s x (Some (from_one vs)) (arrays_of_frames m.core))

  module _ (t : has_length (length (elements_on_top m.core.arrays)) array ≡ false) where
    other_of : (e : Kept) (w : Acting) (xs : List Array) → 1 ≤ length xs → has_length (length (elements_on_top xs)) array ≡ false → Acts m (others (elements_on_top xs) (with_arrays m.core (drop 1 xs))) e w
        → Acts m (elim xs [ [] ↦ stuck | y ∷ ys ↦ images y (with_arrays m.core ys) ]) e w
    other_of e w [] l q g = absurd (omega arith)
    other_of e w (y ∷ ys) l q g =
        let u : has_length (length y.elements) (array_in s x (beneath ys)) ≡ false = ap (has_length (length y.elements)) (same ys) ∙ q in
        subst (λ b. Acts m (cond b (as_many y.elements (beneath ys)) (others y.elements (beneath ys))) e w) (sym u) g

    same_left : (vs : List ℤ) (ys : List Array) → cells_left vs (beneath ys) ≡ cells_now vs
    same_left vs ys = ap (λ o. (m.core.local_cells - local_size o) + length vs) (same ys)

    module _ (l : 1 ≤ length m.core.arrays) where
      abbrev vs : List ℤ
      vs = elements_on_top m.core.arrays

      abbrev under : Core
      under = with_arrays m.core (drop 1 m.core.arrays)

      others_by : (e : Kept) (w : Acting) → Acts m (others vs under) e w → Acts m (variable_effect (a.put_images s x) m.core) e w
      others_by e w g = images_by e w (other_of e w m.core.arrays l t g)

      pub images_too_many : 65536 < cells_now vs → Acts m (variable_effect (a.put_images s x) m.core) m (actings.Fault 11)
      images_too_many h =
          let k = same_left vs (drop 1 m.core.arrays) in
          others_by m (actings.Fault 11) (rw (lt-leb (cells_left vs under) 65536 (omega arith)) (refl, refl))

      few_by : (e : Kept) (w : Acting) → cells_now vs ≤ 65536
          → Acts m (unless room (nat_le (room_with vs) m.core.array_room) (goes_to (renewed vs under))) e w → Acts m (variable_effect (a.put_images s x) m.core) e w
      few_by e w h g =
          let k = same_left vs (drop 1 m.core.arrays) in
          others_by e w (subst (λ b. Acts m (unless room b (if_room (renewed vs under))) e w) (sym (le-leb (cells_left vs under) 65536 (omega arith)))
          (subst (λ y. Acts m y e w) (sym (room_agrees s x (cells_left vs under) (Some (from_one vs)) under)) g))

      pub images_full : cells_now vs ≤ 65536 → m.core.array_room < room_with vs → Acts m (variable_effect (a.put_images s x) m.core) m (actings.Fault 11)
      images_full h f = few_by m (actings.Fault 11) h (rw (lt-leb (room_with vs) m.core.array_room f) (refl, refl))

      pub images_renewed : (d f e : Kept) (n : ℕ) → n ≡ cells_now vs → n ≤ 65536 → room_with vs ≤ m.core.array_room → d ≡ with_core m (with_array_in s x (Some (from_one vs)) m.core)
          → f ≡ with_core d (with_arrays d.core (drop 1 d.core.arrays)) → e ≡ with_core f (record f.core { local_cells = n }) → Acts m (variable_effect (a.put_images s x) m.core) e actings.Done
      images_renewed d f e n i h r p q g =
          let o : Option Local = Some (from_one vs) in
          let ys = drop 1 m.core.arrays in
          few_by e actings.Done (omega arith) (rw (le-leb (room_with vs) m.core.array_room r) (
            refl,
            g ∙ ap (λ (t : Kept). with_core t (record t.core { local_cells = n })) q
                ∙ ap (λ (t : Kept). with_core t (record (with_arrays t.core (drop 1 t.core.arrays)) { local_cells = n })) p
                ∙ ap (λ (us : List Array). with_core m (record (with_arrays (with_array_in s x o m.core) (drop 1 us)) { local_cells = n })) (same_values m.core s x o)
                ∙ ap (λ (c : Core). with_core m (record c { local_cells = n })) (sym (with_beneath m.core s x o ys))
                ∙ ap (λ (t : ℕ). with_core m (record (with_array_in s x o under) { local_cells = t })) (i ∙ sym (same_left vs ys)),
          ))
