-- Plans of an ALLOCATE statement, and which coarrays are allocated here.
use Rattle.std.proofs.Common.{◌≡◌, ℕ, ◌+◌, ◌-◌, ◌<◌, ℤ, Bool, true, false, cond, List, [], ◌∷◌, length, drop, take, refl, ap, sym, ◌∙◌, subst}
use Rattle.std.specs.Prelude.{Option, Some, None, reverse, nat_le, ◌&&◌}
use Rattle.std.specs.Option.{option_map}
use Rattle.caf_base.specs.Arithmetic.{truth, is_true}
use Rattle.coarray_types.specs.Places.{size_of}
use Rattle.walk_theory.specs.Language.{goes_to}
use Rattle.image_acts.specs.Acts as a
use Rattle.image_acts.specs.Core.{Core, Own, with_values}
use Rattle.image_acts.specs.Faults.{room}
use Rattle.image_acts.specs.Frames.{pairs_in}
use Rattle.image_acts.specs.Statuses.{most_cells}
use Rattle.image_acts.specs.Taking.{Acted, given, put_down, seeing, taken, taking, unless}
use Rattle.image_acts.specs.Teams.{current_team}
use Rattle.image_acts.specs.Operate.Allocating as al
use Rattle.image_acts.specs.Operate.Allocating.{allocation_effect, bounds_size, cobounds_size}
use Rattle.coarray_tables.specs.Owns as owns
use Rattle.coarray_tables.specs.Owns.{Owned, own_at, may_be_made, sum_of_cells}
use Rattle.coarray_tables.specs.Steps.{owned_by, planned, with_owned}
use Rattle.image_state.specs.Kept.{Kept}
use Rattle.image_state.specs.declared.state.Acting.{Acting}
use Rattle.image_state.specs.declared.state.Acting.TheVariants as actings
use Rattle.image_state.specs.Acting.{with_core, Acts}
use Rattle.image_state.proofs.Taking.{took_none}

module _ (m : Kept) where
  -- numbers that are seen
  given_by : (e : Kept) (w : Acting) (o : Option (List ℤ × List ℤ)) (x : List ℤ) (f : List ℤ → Acted) → Some x ≡ option_map (λ p. p.0) o → Acts m (f x) e w → Acts m (given o (λ p. f p.0)) e w
  given_by e w None x f h g = absurd (cc)
  given_by e w (Some p) x f h g = let q : x ≡ p.0 = cc in subst (λ y. Acts m (f y) e w) q g

  -- a coarray that is no more allocated
  freed_by : (k : ℕ) (o : Option Own) → owns.freed_own (owned_by m.core) k o ≡ None → Acts m (al.own_freed k o m.core) m actings.Stuck
  freed_by k None h = (refl, refl)
  freed_by k (Some o) h = absurd (cc)

  pub freed_missing : (k : ℕ) → owns.freed (owned_by m.core) k ≡ None → Acts m (allocation_effect (a.note_freed k) m.core) m actings.Stuck
  freed_missing k h = freed_by k (own_at m.core.coarrays k) h

  left_by : (e : Kept) (k : ℕ) (o : Option Own) (n : Owned) → owns.freed_own (owned_by m.core) k o ≡ Some n → e ≡ with_core m (with_owned n m.core) → Acts m (al.own_freed k o m.core) e actings.Done
  left_by e k None n h g = absurd (cc)
  left_by e k (Some o) n h g = let q : owns.with_own (owned_by m.core) k None (m.core.coarray_cells - size_of o.bounds) ≡ n = cc in (refl, g ∙ ap (λ y. with_core m (with_owned y m.core)) (sym q))

  pub freed_done : (e : Kept) (k : ℕ) (n : Owned) → owns.freed (owned_by m.core) k ≡ Some n → e ≡ with_core m (with_owned n m.core) → Acts m (allocation_effect (a.note_freed k) m.core) e actings.Done
  freed_done e k n h g = left_by e k (own_at m.core.coarrays k) n h g

  none_by : (o : Option (List ℤ × List ℤ)) (f : List ℤ → Acted) → None ≡ option_map (λ p. p.0) o → Acts m (given o (λ p. f p.0)) m actings.Stuck
  none_by None f h = (refl, refl)
  none_by (Some p) f h = absurd (cc)

  -- a coarray that is allocated with these bounds and cobounds
  module _ (k depth rank corank : ℕ) where
    abbrev numbers : ℕ
    numbers = bounds_size rank + cobounds_size corank

    abbrev noting : List ℤ → Acted
    noting vs = al.noted k rank corank (pairs_in (take (bounds_size rank) vs)) (drop (bounds_size rank) vs) m.core

    pub note_missing : (n : ℕ) → n ≡ numbers → None ≡ option_map (λ p. p.0) (taken n (drop depth m.core.values) []) → Acts m (allocation_effect (a.note_made k depth rank corank) m.core) m actings.Stuck
    note_missing n h r = subst (λ i. Acts m (seeing depth i m.core noting) m actings.Stuck) h (none_by (taken n (drop depth m.core.values) []) noting r)

    full_by : (x y : Bool) (o : Owned) (d : Core) → cond x (cond y (Some o) None) None ≡ None → Acts m (unless room x (unless room y (goes_to d))) m (actings.Fault 11)
    full_by true true o d h = absurd (cc)
    full_by true false o d h = (refl, refl)
    full_by false y o d h = (refl, refl)

    noted_by : (e : Kept) (x y : Bool) (o p : Owned) → cond x (cond y (Some o) None) None ≡ Some p → e ≡ with_core m (with_owned p m.core) → Acts m (unless room x (unless room y (goes_to (with_owned o m.core)))) e actings.Done
    noted_by e true true o p h g = let q : o ≡ p = cc in (refl, g ∙ ap (λ z. with_core m (with_owned z m.core)) (sym q))
    noted_by e true false o p h g = absurd (cc)
    noted_by e false y o p h g = absurd (cc)

    abbrev with_shape : List ℤ → Owned
    with_shape vs = owns.with_own (owned_by m.core) k (Some (al.own_of (pairs_in (take (bounds_size rank) vs)) (drop (bounds_size rank) vs) (current_team m.core))) (m.core.coarray_cells + size_of (pairs_in (take (bounds_size rank) vs)))

    abbrev is_small : List ℤ → Bool
    is_small vs = nat_le (m.core.coarray_cells + size_of (pairs_in (take (bounds_size rank) vs))) most_cells

    pub note_full : (n : ℕ) (x : List ℤ) → n ≡ numbers → Some x ≡ option_map (λ p. p.0) (taken n (drop depth m.core.values) []) → x ≡ reverse (take n (drop depth m.core.values))
        → owns.noted (owned_by m.core) k rank corank (reverse (take numbers (drop depth m.core.values))) (current_team m.core) ≡ None → Acts m (allocation_effect (a.note_made k depth rank corank) m.core) m (actings.Fault 11)
    note_full n x h r s t =
        let u : x ≡ reverse (take numbers (drop depth m.core.values)) = s ∙ ap (λ i. reverse (take i (drop depth m.core.values))) h in
        let v = subst (λ y. owns.noted (owned_by m.core) k rank corank y (current_team m.core) ≡ None) (sym u) t in
        subst (λ i. Acts m (seeing depth i m.core noting) m (actings.Fault 11)) h
        (given_by m (actings.Fault 11) (taken n (drop depth m.core.values) []) x noting r (full_by (nat_le rank 3 && nat_le corank 3) (is_small x) (with_shape x) (with_owned (with_shape x) m.core) v))

    pub note_done : (e : Kept) (n : ℕ) (x : List ℤ) (o : Owned) → n ≡ numbers → Some x ≡ option_map (λ p. p.0) (taken n (drop depth m.core.values) []) → x ≡ reverse (take n (drop depth m.core.values))
        → owns.noted (owned_by m.core) k rank corank (reverse (take numbers (drop depth m.core.values))) (current_team m.core) ≡ Some o → e ≡ with_core m (with_owned o m.core) → Acts m (allocation_effect (a.note_made k depth rank corank) m.core) e actings.Done
    note_done e n x o h r s t g =
        let u : x ≡ reverse (take numbers (drop depth m.core.values)) = s ∙ ap (λ i. reverse (take i (drop depth m.core.values))) h in
        let v = subst (λ y. owns.noted (owned_by m.core) k rank corank y (current_team m.core) ≡ Some o) (sym u) t in
        subst (λ i. Acts m (seeing depth i m.core noting) e actings.Done) h
        (given_by e actings.Done (taken n (drop depth m.core.values) []) x noting r (noted_by e (nat_le rank 3 && nat_le corank 3) (is_small x) (with_shape x) o v g))

    -- a plan with a coarray more
    abbrev planning : List ℤ → Acted
    planning vs = taking 3 m.core (λ plan d. planned (may_be_made (own_at d.coarrays k) rank vs) (size_of (pairs_in (take (bounds_size rank) vs))) plan d)

    pub shape_missing : (n : ℕ) → n ≡ numbers → None ≡ option_map (λ p. p.0) (taken n (drop (depth + 3) m.core.values) []) → Acts m (allocation_effect (a.plan_coarray k depth rank corank) m.core) m actings.Stuck
    shape_missing n h r = subst (λ i. Acts m (seeing (depth + 3) i m.core planning) m actings.Stuck) h (none_by (taken n (drop (depth + 3) m.core.values) []) planning r)

    pub plan_missing : (n : ℕ) (x : List ℤ) → n ≡ numbers → Some x ≡ option_map (λ p. p.0) (taken n (drop (depth + 3) m.core.values) []) → length m.core.values < 3 → Acts m (allocation_effect (a.plan_coarray k depth rank corank) m.core) m actings.Stuck
    plan_missing n x h r l = subst (λ i. Acts m (seeing (depth + 3) i m.core planning) m actings.Stuck) h
        (given_by m actings.Stuck (taken n (drop (depth + 3) m.core.values) []) x planning r (took_none m m.core 3 (λ plan d. planned (may_be_made (own_at d.coarrays k) rank x) (size_of (pairs_in (take (bounds_size rank) x))) plan d) l))

    module _ (e : Kept) (x y : List ℤ) (w u v : ℤ) (vs : List ℤ) (b : Bool) where
      abbrev summed : ℤ → ℤ → ℤ → Kept
      summed i j l = with_core m (with_values m.core (put_down (i ∷ j ∷ l ∷ []) vs))

      planned_by : m.core.values ≡ v ∷ u ∷ w ∷ vs → b ≡ may_be_made (own_at m.core.coarrays k) rank x → y ≡ take (bounds_size rank) x
          → e ≡ summed (truth (is_true w && b)) (sum_of_cells u (size_of (pairs_in y))) (sum_of_cells v 0) → Acts m (planning x) e actings.Done
      planned_by h p q g =
          subst (λ us. Acts m (given (taken 3 us []) (λ z. planned (may_be_made (own_at m.core.coarrays k) rank x) (size_of (pairs_in (take (bounds_size rank) x))) z.0 (with_values m.core z.1))) e actings.Done) (sym h)
          (refl, g ∙ ap (λ t. summed (truth (is_true w && t)) (sum_of_cells u (size_of (pairs_in y))) (sum_of_cells v 0)) p ∙ ap (λ t. summed (truth (is_true w && may_be_made (own_at m.core.coarrays k) rank x)) (sum_of_cells u (size_of (pairs_in t))) (sum_of_cells v 0)) q)

      pub plan_summed : (n : ℕ) (i j l : ℤ) → n ≡ numbers → Some x ≡ option_map (λ p. p.0) (taken n (drop (depth + 3) m.core.values) []) → m.core.values ≡ v ∷ u ∷ w ∷ vs → b ≡ may_be_made (own_at m.core.coarrays k) rank x → y ≡ take (bounds_size rank) x
          → i ≡ truth (is_true w && b) → j ≡ sum_of_cells u (size_of (pairs_in y)) → l ≡ sum_of_cells v 0 → e ≡ summed i j l → Acts m (allocation_effect (a.plan_coarray k depth rank corank) m.core) e actings.Done
      plan_summed n i j l h r p q s ti tj tl g =
          let t : e ≡ summed (truth (is_true w && b)) (sum_of_cells u (size_of (pairs_in y))) (sum_of_cells v 0) = g ∙ ap (λ z. summed z j l) ti ∙ ap (λ z. summed (truth (is_true w && b)) z l) tj ∙ ap (λ z. summed (truth (is_true w && b)) (sum_of_cells u (size_of (pairs_in y))) z) tl in
          subst (λ o. Acts m (seeing (depth + 3) o m.core planning) e actings.Done) h (given_by e actings.Done (taken n (drop (depth + 3) m.core.values) []) x planning r (planned_by p q s t))
