-- Acts on bounds, sections and shapes: what is known behind each.
use Rattle.std.proofs.Common.{◌≡◌, ◌∙◌, ℕ, zero, suc, ◌+◌, Bool, false, cond, not, List, [], ◌∷◌, ◌++◌, length, drop, refl, sym, subst}
use Rattle.std.specs.Prelude.{ℤ, pos, nat_le, nat_eq, ◌==◌, is_some, slice_get, Option, None, Some}
use Rattle.trace_theory.specs.Entries.{Each}
use Rattle.caf_base.specs.declared.value.Kind.{Kind}
use Rattle.caf_base.specs.declared.value.Kind.TheVariants as kinds
use Rattle.caf_base.specs.Arithmetic.{fits_kind, truth, natural}
use Rattle.coarray_types.specs.Places.{extent_of, size_of}
use Rattle.walk_theory.specs.Language.{goes_to, faults}
use Rattle.object_rules.specs.Cells.{Declared}
use Rattle.image_acts.specs.Statuses.{most_elements}
use Rattle.image_acts.specs.Faults.{room, overflow, shape_fault, bounds_fault}
use Rattle.image_acts.specs.Acts as a
use Rattle.image_acts.specs.Acts.{Act, bounded}
use Rattle.image_acts.specs.Core.{Core, Array, Own, with_values, pushed, elements_in, row}
use Rattle.image_acts.specs.Frames.{array_in, pairs_in, pairs_numbers}
use Rattle.image_acts.specs.Owning.{own_in}
use Rattle.image_acts.specs.Places.{place_in, place_size, extents_of, cells_of, digits, numbers_of_form, triplets, subscripts_in, place_within, no_place, place_numbers}
use Rattle.image_acts.specs.Teams.{current_team, members, counted_from, are_indices_of, is_index_of}
use Rattle.image_acts.specs.Taking.{Acted, found_in, unless, taken, put_down, seeing, seeing_array, giving, telling}
use Rattle.image_acts.specs.Operate.Variables.{allocated}
use Rattle.image_acts.specs.Operate.Bounds.{same_extents, bounds_on_top, from_one, bounds_effect}
use Rattle.image_acts.specs.Meaning.{settled, effect_of}
use Rattle.stack_laws.proofs.Places.{no_place_long, place_long}
use Rattle.kind_walks.specs.Kinds.{Typing, IsSo, IsOf, with_number, with_array}
use Rattle.kind_walks.specs.Suiting.{Joined}
use Rattle.kind_walks.proofs.Effects.{with_numbers, unknown, push, push_array, push_down, there, find_as, so, so_as, allocates, owns, settles, one, top, many, takes}
use Rattle.kind_walks.proofs.StackActs.{Acts, To, seen_array}

pub any_elements : (vs : List ℤ) → Each (IsOf None) vs
any_elements [] = tt
any_elements (v ∷ vs) = (tt, any_elements vs)

module _ (coarrays : List Declared) (n : ℕ) where
  abbrev told : Typing → Typing
  told s = with_number (Some kinds.L4) s

  tells : (s : Typing) (j : Joined) (c : Core) (b : Bool) → IsSo n s c → To coarrays n (told s) j (telling b c)
  tells s j c b h = push n (Some kinds.L4) s c (truth b) refl h

  pub sees : (t : Typing) (j : Joined) (depth m : ℕ) (c : Core) (f : List ℤ → Acted) → ((ns : List ℤ) → To coarrays n t j (f ns)) → To coarrays n t j (seeing depth m c f)
  sees t j depth m c f h = there n coarrays t j (taken m (drop depth c.values) []) (λ p. f p.0) (λ p. h p.0)

  -- ---- places
  abbrev place : List ℕ → Typing → Typing
  place ds s = with_numbers (unknown (place_size (triplets ds))) s

  sectioned : (bs : List (ℤ × ℤ)) (ds : List ℕ) (us : List ℤ) (s : Typing) (j : Joined) (d : Core) → IsSo n s d
      → To coarrays n (place ds s) j (found_in (place_within bs (subscripts_in ds us)) (λ p. goes_to (with_values d (put_down (place_numbers p) d.values))))
  sectioned bs ds us s j d h =
      find_as n coarrays (place ds s) j (place_within bs (subscripts_in ds us)) (λ p. goes_to (with_values d (put_down (place_numbers p) d.values)))
      (λ p e. push_down n (place_size (triplets ds)) s d (place_numbers p) (place_long bs ds us p e) h)

  pub acts_section : (x : a.Scope) (i form : ℕ) (ks : List (Option Kind)) → length ks ≡ numbers_of_form (digits form) → (s : Typing) → Acts coarrays n (with_numbers ks s) (bounded (a.section x i form)) (place (digits form) s)
  acts_section x i form ks e s j c h =
      let ds = digits form in
      let t = place ds s in
      many n coarrays t j ks s c h (effect_of (bounded (a.section x i form))) (λ xs d l g hd.
      settles n coarrays t j (bounded (a.section x i form)) (bounds_effect (a.section x i form) (with_values d (xs ++ d.values)))
      (takes n coarrays t j (numbers_of_form ds) xs d.values
      (λ p. allocated (array_in x i (with_values d p.1)) (λ l. found_in (place_within l.bounds (subscripts_in ds p.0)) (λ q. goes_to (with_values d (put_down (place_numbers q) p.1))))) (l ∙ e)
      (allocates n coarrays t j (array_in x i d) (λ l. found_in (place_within l.bounds (subscripts_in ds (put_down xs []))) (λ q. goes_to (with_values d (put_down (place_numbers q) d.values))))
      (λ l f. sectioned l.bounds ds (put_down xs []) s j d hd))))

  abbrev co_placing : Option Own → List ℕ → List ℤ → Core → Acted
  co_placing None ds vs c = goes_to (with_values c (put_down (place_numbers (no_place (triplets ds))) c.values))
  co_placing (Some o) ds vs c = found_in (place_within o.bounds (subscripts_in ds vs)) (λ p. goes_to (with_values c (put_down (place_numbers p) c.values)))

  co_placed : (o : Option Own) (ds : List ℕ) (us : List ℤ) (s : Typing) (j : Joined) (d : Core) → IsSo n s d → To coarrays n (place ds s) j (co_placing o ds us d)
  co_placed None ds us s j d h = push_down n (place_size (triplets ds)) s d (place_numbers (no_place (triplets ds))) (no_place_long (triplets ds)) h
  co_placed (Some o) ds us s j d h = sectioned o.bounds ds us s j d h

  pub acts_co_section : (k form : ℕ) (ks : List (Option Kind)) → length ks ≡ numbers_of_form (digits form) → (s : Typing) → Acts coarrays n (with_numbers ks s) (bounded (a.co_section k form)) (place (digits form) s)
  acts_co_section k form ks e s j c h =
      let ds = digits form in
      let t = place ds s in
      many n coarrays t j ks s c h (effect_of (bounded (a.co_section k form))) (λ xs d l g hd.
      settles n coarrays t j (bounded (a.co_section k form)) (bounds_effect (a.co_section k form) (with_values d (xs ++ d.values)))
      (takes n coarrays t j (numbers_of_form ds) xs d.values (λ p. co_placing (own_in (with_values d p.1) k) ds p.0 (with_values d p.1)) (l ∙ e) (co_placed (own_in d k) ds (put_down xs []) s j d hd)))

  pub acts_same_shape : (depth rank : ℕ) (s : Typing) → Acts coarrays n s (bounded (a.same_shape depth rank)) s
  acts_same_shape depth rank s j c h =
      settles n coarrays s j (bounded (a.same_shape depth rank)) (bounds_effect (a.same_shape depth rank) c)
      (sees s j depth (place_size rank) c (λ ns. seeing_array c (λ x. unless shape_fault (same_extents x.extents (extents_of (place_in ns))) (goes_to c)))
      (λ ns. seen_array coarrays n s j c (λ x. unless shape_fault (same_extents x.extents (extents_of (place_in ns))) (goes_to c))
      (λ x. so n coarrays s j shape_fault (same_extents x.extents (extents_of (place_in ns))) (goes_to c) h)))

  pub acts_some_cells : (depth rank : ℕ) (s : Typing) → Acts coarrays n s (bounded (a.some_cells depth rank)) (told s)
  acts_some_cells depth rank s j c h =
      settles n coarrays (told s) j (bounded (a.some_cells depth rank)) (bounds_effect (a.some_cells depth rank) c)
      (sees (told s) j depth (place_size rank) c (λ ns. telling (not (cells_of (place_in ns) == 0)) c) (λ ns. tells s j c (not (cells_of (place_in ns) == 0)) h))

  -- ---- bounds
  topped : (bs : List (ℤ × ℤ)) (s : Typing) (j : Joined) (c : Core) → IsSo n s c → To coarrays n (with_array None s) j (bounds_on_top bs c)
  topped bs s j c h =
      let x = row (pairs_numbers bs) (length (pairs_numbers bs)) in
      so n coarrays (with_array None s) j room (nat_le (elements_in c.arrays + length (pairs_numbers bs)) most_elements) (goes_to (record c { arrays = x ∷ c.arrays })) (push_array n None s c x (any_elements (pairs_numbers bs)) h)

  pub acts_bounds : (x : a.Scope) (i : ℕ) (s : Typing) → Acts coarrays n s (bounded (a.bounds x i)) (with_array None s)
  acts_bounds x i s j c h =
      settles n coarrays (with_array None s) j (bounded (a.bounds x i)) (bounds_effect (a.bounds x i) c) (allocates n coarrays (with_array None s) j (array_in x i c) (λ l. bounds_on_top l.bounds c) (λ l f. topped l.bounds s j c h))

  pub acts_co_bounds : (k : ℕ) (s : Typing) → Acts coarrays n s (bounded (a.co_bounds k)) (with_array None s)
  acts_co_bounds k s j c h =
      settles n coarrays (with_array None s) j (bounded (a.co_bounds k)) (bounds_effect (a.co_bounds k) c) (owns n coarrays (with_array None s) j (own_in c k) (λ o. bounds_on_top o.bounds c) (λ o. topped o.bounds s j c h))

  pub acts_section_bounds : (ks : List (Option Kind)) (rank : ℕ) → length ks ≡ place_size rank → (s : Typing) → Acts coarrays n (with_numbers ks s) (bounded (a.section_bounds rank)) (with_array None s)
  acts_section_bounds ks rank e s j c h =
      let t = with_array None s in
      many n coarrays t j ks s c h (effect_of (bounded (a.section_bounds rank))) (λ xs d l g hd.
      settles n coarrays t j (bounded (a.section_bounds rank)) (bounds_effect (a.section_bounds rank) (with_values d (xs ++ d.values)))
      (takes n coarrays t j (place_size rank) xs d.values (λ p. bounds_on_top (from_one (extents_of (place_in p.0))) (with_values d p.1)) (l ∙ e) (topped (from_one (extents_of (place_in (put_down xs [])))) s j d hd)))

  pub acts_value_bounds : (k : Option Kind) (s : Typing) → Acts coarrays n (with_array k s) (bounded a.value_bounds) (with_array None s)
  acts_value_bounds k s j c h =
      let t = with_array None s in
      top n coarrays t j k s c h (effect_of (bounded a.value_bounds)) (λ x d hx hd.
      settles n coarrays t j (bounded a.value_bounds) (bounds_effect a.value_bounds (record d { arrays = x ∷ d.arrays })) (topped (from_one x.extents) s j d hd))

  -- ---- sizes, extents and bounds, which are of kind 4
  abbrev small : Typing → Typing
  small s = with_number (Some kinds.I4) s

  defaulted : (v : ℤ) (s : Typing) (j : Joined) (c : Core) → IsSo n s c → To coarrays n (small s) j (unless overflow (fits_kind kinds.I4 v) (giving v c))
  defaulted v s j c h = so_as n coarrays (small s) j overflow (fits_kind kinds.I4 v) (giving v c) (λ e. push n (Some kinds.I4) s c v e h)

  pub acts_size : (k : Option Kind) (s : Typing) → Acts coarrays n (with_array k s) (bounded a.size) (small s)
  acts_size k s j c h =
      top n coarrays (small s) j k s c h (effect_of (bounded a.size)) (λ x d hx hd.
      settles n coarrays (small s) j (bounded a.size) (bounds_effect a.size (record d { arrays = x ∷ d.arrays })) (defaulted (pos (size_of (pairs_in x.elements))) s j d hd))

  abbrev numbered : List (ℤ × ℤ) → ℕ → (ℤ × ℤ → Acted) → Acted
  numbered bs zero f = faults bounds_fault
  numbered bs (suc i) f = elim (slice_get bs i) [ None ↦ faults bounds_fault | Some b ↦ f b ]

  abbrev lower_of : ℤ × ℤ → ℤ
  lower_of b = cond (extent_of b == 0) (pos 1) b.0

  abbrev upper_of : ℤ × ℤ → ℤ
  upper_of b = cond (extent_of b == 0) (pos 0) b.1

  along : (g : ℤ × ℤ → ℤ) (bs : List (ℤ × ℤ)) (m : ℕ) (s : Typing) (j : Joined) (c : Core) → IsSo n s c → To coarrays n (small s) j (numbered bs m (λ b. unless overflow (fits_kind kinds.I4 (g b)) (giving (g b) c)))
  along g bs zero s j c h = tt
  along g bs (suc m) s j c h = by_bounds (slice_get bs m)
    where
      by_bounds : (o : Option (ℤ × ℤ)) → To coarrays n (small s) j (elim o [ None ↦ faults bounds_fault | Some b ↦ unless overflow (fits_kind kinds.I4 (g b)) (giving (g b) c) ])
      by_bounds None = tt
      by_bounds (Some b) = defaulted (g b) s j c h

  -- the dimension on top, and the bounds as an array
  of_dimension : (x : Act) (g : ℤ × ℤ → ℤ)
      → ((v : ℤ) (y : Array) (d : Core) → effect_of x (pushed v (record d { arrays = y ∷ d.arrays })) ≡ settled x (numbered (pairs_in y.elements) (natural v) (λ b. unless overflow (fits_kind kinds.I4 (g b)) (giving (g b) d))))
      → (i k : Option Kind) (s : Typing) → Acts coarrays n (with_number i (with_array k s)) x (small s)
  of_dimension x g same i k s j c h =
      one n coarrays (small s) j i (with_array k s) c h (effect_of x) (λ v b hv hb.
      top n coarrays (small s) j k s b hb (λ b. effect_of x (pushed v b)) (λ y d hy hd.
      subst (To coarrays n (small s) j) (sym (same v y d))
      (settles n coarrays (small s) j x (numbered (pairs_in y.elements) (natural v) (λ b. unless overflow (fits_kind kinds.I4 (g b)) (giving (g b) d))) (along g (pairs_in y.elements) (natural v) s j d hd))))

  pub acts_extent : (i k : Option Kind) (s : Typing) → Acts coarrays n (with_number i (with_array k s)) (bounded a.extent) (small s)
  acts_extent i k s = of_dimension (bounded a.extent) (λ b. pos (extent_of b)) (λ v y d. refl) i k s

  pub acts_lower : (i k : Option Kind) (s : Typing) → Acts coarrays n (with_number i (with_array k s)) (bounded a.lower_bound) (small s)
  acts_lower i k s = of_dimension (bounded a.lower_bound) lower_of (λ v y d. refl) i k s

  pub acts_upper : (i k : Option Kind) (s : Typing) → Acts coarrays n (with_number i (with_array k s)) (bounded a.upper_bound) (small s)
  acts_upper i k s = of_dimension (bounded a.upper_bound) upper_of (λ v y d. refl) i k s

  -- ---- what is there
  pub acts_is_there : (x : a.Scope) (i : ℕ) (s : Typing) → Acts coarrays n s (bounded (a.is_there x i)) (told s)
  acts_is_there x i s j c h = tells s j c (is_some (array_in x i c)) h

  pub acts_co_is_there : (k : ℕ) (s : Typing) → Acts coarrays n s (bounded (a.co_is_there k)) (told s)
  acts_co_is_there k s j c h = tells s j c (is_some (own_in c k)) h

  pub acts_needs_own : (k : ℕ) (s : Typing) → Acts coarrays n s (bounded (a.needs_own k)) s
  acts_needs_own k s j c h = settles n coarrays s j (bounded (a.needs_own k)) (bounds_effect (a.needs_own k) c) (owns n coarrays s j (own_in c k) (λ o. goes_to c) (λ o. h))

  abbrev is_of_team : Option Own → ℕ → Bool
  is_of_team None t = false
  is_of_team (Some o) t = nat_eq o.team t

  pub acts_made_in_team : (k : ℕ) (s : Typing) → Acts coarrays n s (bounded (a.made_in_team k)) (told s)
  acts_made_in_team k s j c h = tells s j c (is_of_team (own_in c k) (current_team c)) h

  pub acts_every_index : (s : Typing) → Acts coarrays n s (bounded a.every_index) (with_array None s)
  acts_every_index s j c h =
      let m = length (members c (current_team c)) in
      let x = row (counted_from 1 m) m in
      settles n coarrays (with_array None s) j (bounded a.every_index) (bounds_effect a.every_index c)
      (so n coarrays (with_array None s) j room (nat_le (elements_in c.arrays + m) most_elements) (goes_to (record c { arrays = x ∷ c.arrays })) (push_array n None s c x (any_elements (counted_from 1 m)) h))

  pub acts_are_indices : (s : Typing) → Acts coarrays n s (bounded a.are_indices) (told s)
  acts_are_indices s j c h =
      settles n coarrays (told s) j (bounded a.are_indices) (bounds_effect a.are_indices c)
      (seen_array coarrays n (told s) j c (λ x. telling (are_indices_of (length (members c (current_team c))) x.elements) c) (λ x. tells s j c (are_indices_of (length (members c (current_team c))) x.elements) h))

  pub acts_is_index : (i : Option Kind) (s : Typing) → Acts coarrays n (with_number i s) (bounded a.is_index) (told s)
  acts_is_index i s j c h = one n coarrays (told s) j i s c h (effect_of (bounded a.is_index)) (λ v d hv hd. tells s j d (is_index_of (length (members d (current_team d))) v) hd)
