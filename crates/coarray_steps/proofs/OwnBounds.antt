-- Bounds and sections of coarrays, and whether they are allocated here.
use Rattle.std.proofs.Common.{◌≡◌, ℕ, ◌+◌, ◌<◌, ◌≤◌, ℤ, true, false, List, length, drop, take, refl, ap, sym, ◌∙◌, subst, arith}
use Rattle.std.specs.Prelude.{Option, Some, None, is_some, reverse}
use Rattle.std.specs.Option.{option_map}
use Rattle.std.proofs.lemmas.Bool.{le-leb, lt-leb}
use Rattle.walk_theory.specs.Language.{goes_to}
use Rattle.walk_theory.specs.Terms.{Found, found, at_fault}
use Rattle.image_acts.specs.Acts as a
use Rattle.image_acts.specs.Core.{Core, Own, with_values, with_array, elements_in}
use Rattle.image_acts.specs.Frames.{pairs_numbers}
use Rattle.image_acts.specs.Places.{Place, digits, numbers_of_form, no_place, place_numbers, place_within, subscripts_in, triplets}
use Rattle.image_acts.specs.Taking.{Acted, found_in, put_down}
use Rattle.image_acts.specs.Operate.Bounds.{bounds_effect, bounds_on_top, owned}
use Rattle.array_places.specs.Sections.{numbers_of}
use Rattle.array_values.specs.Values.{row_of}
use Rattle.coarray_tables.specs.Owns.{own_at}
use Rattle.coarray_tables.specs.Sections.{own_place}
use Rattle.image_state.specs.Kept.{Kept}
use Rattle.image_state.specs.declared.state.Acting.TheVariants as actings
use Rattle.image_state.specs.Acting.{with_core, Acts}
use Rattle.image_state.specs.Coarrays.{own_bounds}
use Rattle.image_state.proofs.Taking.{took, took_none}

-- the place of an element or section of a coarray, on top
abbrev placing : Core → Place → Acted
placing d p = goes_to (with_values d (put_down (place_numbers p) d.values))

abbrev co_placing : Option Own → List ℕ → List ℤ → Core → Acted
co_placing None ds vs c = placing c (no_place (triplets ds))
co_placing (Some o) ds vs c = found_in (place_within o.bounds (subscripts_in ds vs)) (λ p. placing c p)

module _ (m : Kept) (k : ℕ) where
  -- a coarray that is allocated here, and one that isn't
  is_by : (o : Option Own) → is_some o ≡ true → Acts m (owned o (λ p. goes_to m.core)) m actings.Done
  is_by None h = absurd (cc)
  is_by (Some o) h = (refl, refl)

  not_by : (o : Option Own) → is_some o ≡ false → Acts m (owned o (λ p. goes_to m.core)) m (actings.Fault 6)
  not_by None h = (refl, refl)
  not_by (Some o) h = absurd (cc)

  pub own_is : is_some (own_at m.core.coarrays k) ≡ true → Acts m (bounds_effect (a.needs_own k) m.core) m actings.Done
  own_is h = is_by (own_at m.core.coarrays k) h

  pub own_not : is_some (own_at m.core.coarrays k) ≡ false → Acts m (bounds_effect (a.needs_own k) m.core) m (actings.Fault 6)
  own_not h = not_by (own_at m.core.coarrays k) h

  -- its bounds as an array value
  abbrev told : Option Own → Acted
  told o = owned o (λ p. bounds_on_top p.bounds m.core)

  missing_by : (o : Option Own) → None ≡ option_map (λ p. pairs_numbers p.bounds) o → Acts m (told o) m (actings.Fault 6)
  missing_by None h = (refl, refl)
  missing_by (Some o) h = absurd (cc)

  pub bounds_missing : None ≡ option_map (λ p. pairs_numbers p.bounds) (own_at m.core.coarrays k) → Acts m (bounds_effect (a.co_bounds k) m.core) m (actings.Fault 6)
  bounds_missing h = missing_by (own_at m.core.coarrays k) h

  module _ (ns : List ℤ) where
    full_by : (o : Option Own) → Some ns ≡ option_map (λ p. pairs_numbers p.bounds) o → 524288 < elements_in m.core.arrays + length ns → Acts m (told o) m (actings.Fault 11)
    full_by None h l = absurd (cc)
    full_by (Some o) h l =
        let e : ns ≡ pairs_numbers o.bounds = cc in
        let f : 524288 < elements_in m.core.arrays + length (pairs_numbers o.bounds) = subst (λ vs. 524288 < elements_in m.core.arrays + length vs) e l in
        rw (lt-leb (elements_in m.core.arrays + length (pairs_numbers o.bounds)) 524288 f) (refl, refl)

    pub bounds_full : Some ns ≡ option_map (λ p. pairs_numbers p.bounds) (own_at m.core.coarrays k) → 524288 < elements_in m.core.arrays + length ns → Acts m (bounds_effect (a.co_bounds k) m.core) m (actings.Fault 11)
    bounds_full h l = full_by (own_at m.core.coarrays k) h l

    bounds_by : (o : Option Own) → Some ns ≡ option_map (λ p. pairs_numbers p.bounds) o → own_bounds o ≡ ns
    bounds_by None h = absurd (cc)
    bounds_by (Some o) h = cc

    pub bounds_fit : Some ns ≡ option_map (λ p. pairs_numbers p.bounds) (own_at m.core.coarrays k) → elements_in m.core.arrays + length ns ≤ 524288 → elements_in m.core.arrays + length (own_bounds (own_at m.core.coarrays k)) ≤ 524288
    bounds_fit h l = subst (λ vs. elements_in m.core.arrays + length vs ≤ 524288) (sym (bounds_by (own_at m.core.coarrays k) h)) l

    told_by : (e : Kept) (o : Option Own) → Some ns ≡ option_map (λ p. pairs_numbers p.bounds) o → elements_in m.core.arrays + length ns ≤ 524288 → e ≡ with_core m (with_array (row_of (own_bounds o)) m.core) → Acts m (told o) e actings.Done
    told_by e None h l g = absurd (cc)
    told_by e (Some o) h l g =
        let q : ns ≡ pairs_numbers o.bounds = cc in
        let f : elements_in m.core.arrays + length (pairs_numbers o.bounds) ≤ 524288 = subst (λ vs. elements_in m.core.arrays + length vs ≤ 524288) q l in
        rw (le-leb (elements_in m.core.arrays + length (pairs_numbers o.bounds)) 524288 f) (refl, g)

    pub bounds_told : (e : Kept) → Some ns ≡ option_map (λ p. pairs_numbers p.bounds) (own_at m.core.coarrays k) → elements_in m.core.arrays + length ns ≤ 524288
        → e ≡ with_core m (with_array (row_of (own_bounds (own_at m.core.coarrays k))) m.core) → Acts m (bounds_effect (a.co_bounds k) m.core) e actings.Done
    bounds_told e h l g = told_by e (own_at m.core.coarrays k) h l g

  -- the place of a section
  module _ (form : ℕ) where
    abbrev sectioned : List ℤ → Core → Acted
    sectioned vs d = co_placing (own_at d.coarrays k) (digits form) vs d

    pub section_missing : (n : ℕ) → n ≡ numbers_of_form (digits form) → length m.core.values < 0 + n → Acts m (bounds_effect (a.co_section k form) m.core) m actings.Stuck
    section_missing n h l = took_none m m.core (numbers_of_form (digits form)) sectioned (omega arith)

    found_faults : (x : Found Place) (f : ℕ) (d : Core) → numbers_of x ≡ at_fault f → Acts m (found_in x (placing d)) m (actings.Fault f)
    found_faults (found p) f d h = absurd (cc)
    found_faults (at_fault g) f d h = let e : g ≡ f = cc in (ap actings.Fault (sym e), refl)

    faults_by : (o : Option Own) (vs : List ℤ) (f : ℕ) (d : Core) → numbers_of (own_place o (digits form) vs) ≡ at_fault f → Acts m (co_placing o (digits form) vs d) m (actings.Fault f)
    faults_by None vs f d h = absurd (cc)
    faults_by (Some o) vs f d h = found_faults (place_within o.bounds (subscripts_in (digits form) vs)) f d h

    pub section_faults : (n f : ℕ) (vs : List ℤ) → n ≡ numbers_of_form (digits form) → n ≤ length m.core.values → vs ≡ reverse (take n (drop 0 m.core.values))
        → numbers_of (own_place (own_at m.core.coarrays k) (digits form) vs) ≡ at_fault f → Acts m (bounds_effect (a.co_section k form) m.core) m (actings.Fault f)
    section_faults n f vs h l q r =
        let w = numbers_of_form (digits form) in
        let s : vs ≡ reverse (take w m.core.values) = q ∙ ap (λ i. reverse (take i m.core.values)) h in
        took m m (actings.Fault f) m.core w sectioned (omega arith)
        (faults_by (own_at m.core.coarrays k) (reverse (take w m.core.values)) f (with_values m.core (drop w m.core.values)) (subst (λ us. numbers_of (own_place (own_at m.core.coarrays k) (digits form) us) ≡ at_fault f) s r))

    found_placed : (e : Kept) (x : Found Place) (ps : List ℤ) (d : Core) → numbers_of x ≡ found ps → e ≡ with_core m (with_values d (put_down ps d.values)) → Acts m (found_in x (placing d)) e actings.Done
    found_placed e (found p) ps d h g = let q : place_numbers p ≡ ps = cc in (refl, g ∙ ap (λ us. with_core m (with_values d (put_down us d.values))) (sym q))
    found_placed e (at_fault f) ps d h g = absurd (cc)

    placed_by : (e : Kept) (o : Option Own) (vs ps : List ℤ) (d : Core) → numbers_of (own_place o (digits form) vs) ≡ found ps → e ≡ with_core m (with_values d (put_down ps d.values)) → Acts m (co_placing o (digits form) vs d) e actings.Done
    placed_by e None vs ps d h g = found_placed e (found (no_place (triplets (digits form)))) ps d h g
    placed_by e (Some o) vs ps d h g = found_placed e (place_within o.bounds (subscripts_in (digits form) vs)) ps d h g

    pub section_placed : (e : Kept) (n : ℕ) (vs ps : List ℤ) → n ≡ numbers_of_form (digits form) → n ≤ length m.core.values → vs ≡ reverse (take n (drop 0 m.core.values))
        → numbers_of (own_place (own_at m.core.coarrays k) (digits form) vs) ≡ found ps → e ≡ with_core m (with_values m.core (put_down ps (drop n m.core.values))) → Acts m (bounds_effect (a.co_section k form) m.core) e actings.Done
    section_placed e n vs ps h l q r g =
        let w = numbers_of_form (digits form) in
        let s : vs ≡ reverse (take w m.core.values) = q ∙ ap (λ i. reverse (take i m.core.values)) h in
        took m e actings.Done m.core w sectioned (omega arith)
        (placed_by e (own_at m.core.coarrays k) (reverse (take w m.core.values)) ps (with_values m.core (drop w m.core.values)) (subst (λ us. numbers_of (own_place (own_at m.core.coarrays k) (digits form) us) ≡ found ps) s r)
        (g ∙ ap (λ i. with_core m (with_values m.core (put_down ps (drop i m.core.values)))) h))
