-- Images by cosubscripts of a coarray.
use Rattle.std.proofs.Common.{◌≡◌, ℕ, zero, suc, ◌+◌, ◌-◌, ◌<◌, ◌≤◌, ◌==◌, ℤ, pos, inl, inr, Bool, true, false, cond, List, [], ◌∷◌, length, drop, take, refl, ap, sym, ◌∙◌, subst, arith}
use Rattle.std.specs.Prelude.{Option, Some, None, reverse, nat_le, not, slice_get, ◌||◌}
use Rattle.std.proofs.lemmas.Bool.{leb-true}
use Rattle.std.proofs.lemmas.Bool.Decides.{leb_tells}
use Rattle.std.proofs.lemmas.List.{drop-drop, length-drop}
use Rattle.caf_base.specs.declared.value.Kind.TheVariants as kinds
use Rattle.caf_base.specs.Arithmetic.{fits_kind, natural}
use Rattle.coarray_types.specs.Coplaces.{image_order}
use Rattle.walk_theory.specs.Language.{faults, stuck}
use Rattle.walk_theory.specs.Terms.{Found, found, at_fault, with_found}
use Rattle.image_acts.specs.Acts as a
use Rattle.image_acts.specs.Core.{Core, Own, Array, with_values}
use Rattle.image_acts.specs.Faults.{bounds_fault, cobounds_fault, not_established, cells_fault, overflow, shape_fault}
use Rattle.image_acts.specs.Places.{Place, place_in, place_size, cells_of}
use Rattle.image_acts.specs.Statuses.{most_access_cells}
use Rattle.image_acts.specs.Taking.{Acted, found_in, given, giving, seeing, taking, taking_array, unless}
use Rattle.image_acts.specs.Teams.{are_within_cobounds, cosubscripts_behind, index_in, index_of, is_established, member_at, members}
use Rattle.image_acts.specs.Operate.Bounds.{owned}
use Rattle.image_acts.specs.Operate.Selecting.{selector_effect}
use Rattle.array_places.specs.Images.{numbered_in, of_kind_4}
use Rattle.array_values.specs.Values.{elements_on_top}
use Rattle.coarray_tables.specs.Images.{index_found, own_cosubscript, own_index, owner_found}
use Rattle.coarray_tables.specs.Owns.{own_at}
use Rattle.coarray_tables.specs.Steps.{made_team}
use Rattle.image_state.specs.Kept.{Kept}
use Rattle.image_state.specs.declared.state.Acting.{Acting}
use Rattle.image_state.specs.declared.state.Acting.TheVariants as actings
use Rattle.image_state.specs.Acting.{with_core, Acts}
use Rattle.image_state.specs.Arrays.{with_arrays}
use Rattle.image_state.proofs.Taking.{none_taken, one_taken, seen, taken_are, taken_none, took, took_none, two_not_taken, two_taken, unseen}

-- what is found, and what is given of it
module _ (m : Kept) where
  -- this image, for an access
  module _ (r n : ℕ) (h : n ≡ place_size r) where
    abbrev own : List ℤ → Acted
    own ns = unless cells_fault (nat_le (cells_of (place_in ns)) most_access_cells) (giving (pos m.core.me) m.core)

    pub place_missing : length m.core.values < 0 + n → Acts m (selector_effect (a.own_image r) m.core) m actings.Stuck
    place_missing l = unseen m 0 (place_size r) own (omega arith) (omega arith)

    module _ (ns : List ℤ) (l : n ≤ length m.core.values) (q : ns ≡ reverse (take n (drop 0 m.core.values))) (b : Bool) (f : b ≡ nat_le (cells_of (place_in ns)) most_access_cells) where
      same : reverse (take (place_size r) (drop 0 m.core.values)) ≡ ns
      same = ap (λ i. reverse (take i (drop 0 m.core.values))) (sym h) ∙ sym q

      own_by : (e : Kept) (w : Acting) → Acts m (unless cells_fault b (giving (pos m.core.me) m.core)) e w → Acts m (selector_effect (a.own_image r) m.core) e w
      own_by e w g = seen m e w 0 (place_size r) own (omega arith) (subst (λ t. Acts m (own t) e w) (sym same) (subst (λ t. Acts m (unless cells_fault t (giving (pos m.core.me) m.core)) e w) f g))

    pub many_cells : (ns : List ℤ) (b : Bool) → n ≤ length m.core.values → ns ≡ reverse (take n (drop 0 m.core.values)) → b ≡ nat_le (cells_of (place_in ns)) most_access_cells → b ≡ false → Acts m (selector_effect (a.own_image r) m.core) m (actings.Fault 9)
    many_cells ns b l q f t = own_by ns l q b f m (actings.Fault 9) (subst (λ x. Acts m (unless cells_fault x (giving (pos m.core.me) m.core)) m (actings.Fault 9)) (sym t) (refl, refl))

    pub own_told : (e : Kept) (w : Acting) (ns : List ℤ) (b : Bool) → n ≤ length m.core.values → ns ≡ reverse (take n (drop 0 m.core.values)) → b ≡ nat_le (cells_of (place_in ns)) most_access_cells → b ≡ true
        → Acts m (giving (pos m.core.me) m.core) e w → Acts m (selector_effect (a.own_image r) m.core) e w
    own_told e w ns b l q f t g = own_by ns l q b f e w (subst (λ x. Acts m (unless cells_fault x (giving (pos m.core.me) m.core)) e w) (sym t) g)

  -- the image of cosubscripts: the team, the cosubscripts and the place, which stays
  module _ (k r n : ℕ) where
    abbrev owner_in : Core → ℕ → Option Own → List ℤ → Place → Acted
    owner_in c t None ss p = faults not_established
    owner_in c t (Some o) ss p =
        unless cobounds_fault (not (index_of o ss (length (members c t)) == 0) || (cells_of p == 0))
        (unless not_established (is_established c o.team t) (unless cells_fault (nat_le (cells_of p) most_access_cells) (giving (pos (member_at (members c t) (index_of o ss (length (members c t))))) c)))

    chosen : (x y z : Bool) (i : ℕ) (c : Core) → unless cobounds_fault x (unless not_established y (unless cells_fault z (giving (pos i) c)))
        ≡ found_in (cond x (cond y (cond z (found i) (at_fault cells_fault)) (at_fault not_established)) (at_fault cobounds_fault)) (λ j. giving (pos j) c)
    chosen true true true i c = refl
    chosen true true false i c = refl
    chosen true false z i c = refl
    chosen false y z i c = refl

    owner_is : (c : Core) (t : ℕ) (o : Option Own) (ss : List ℤ) (p : Place) → owner_in c t o ss p ≡ found_in (owner_found o (is_established c (made_team o) t) (members c t) ss p) (λ i. giving (pos i) c)
    owner_is c t None ss p = refl
    owner_is c t (Some o) ss p =
        let i = index_of o ss (length (members c t)) in
        chosen (not (i == 0) || (cells_of p == 0)) (is_established c o.team t) (nat_le (cells_of p) most_access_cells) (member_at (members c t) i) c

    abbrev of_place : ℤ → List ℤ → Core → Acted
    of_place t ss e = seeing 0 (place_size r) e (λ ns. owner_in e (natural t) (own_at e.coarrays k) ss (place_in ns))

    abbrev of_team : ℤ → Core → Acted
    of_team t d = taking n d (λ ss e. of_place t ss e)

    unseen_in : (c : Core) (f : List ℤ → Acted) → length c.values < place_size r → Acts m (seeing 0 (place_size r) c f) m actings.Stuck
    unseen_in c f h = subst (λ o. Acts m (given o (λ p. f p.0)) m actings.Stuck) (sym (taken_none (place_size r) (drop 0 c.values) [] h)) (refl, refl)

    seen_in : (e : Kept) (w : Acting) (c : Core) (f : List ℤ → Acted) → place_size r ≤ length c.values → Acts m (f (reverse (take (place_size r) c.values))) e w → Acts m (seeing 0 (place_size r) c f) e w
    seen_in e w c f h g = subst (λ o. Acts m (given o (λ p. f p.0)) e w) (sym (taken_are (place_size r) (drop 0 c.values) h)) g

    short : (t : ℤ) (vs : List ℤ) → length vs < n + place_size r → Acts m (of_team t (with_values m.core vs)) m actings.Stuck
    short t vs h = elim (leb_tells n (length vs)) [
      | inl l ↦ took m m actings.Stuck (with_values m.core vs) n (λ ss e. of_place t ss e) l.1
          (unseen_in (with_values m.core (drop n vs)) (λ ns. owner_in (with_values m.core (drop n vs)) (natural t) (own_at m.core.coarrays k) (reverse (take n vs)) (place_in ns)) (omega (arith, length-drop n vs)))
      | inr l ↦ took_none m (with_values m.core vs) n (λ ss e. of_place t ss e) l.1
    ]

    missing_by : (vs : List ℤ) → m.core.values ≡ vs → length vs < 1 + n + place_size r → Acts m (selector_effect (a.owner k r n) m.core) m actings.Stuck
    missing_by [] h l = none_taken m of_team h
    missing_by (t ∷ vs) h l = one_taken m m actings.Stuck t vs of_team h (short t vs (omega arith))

    pub owner_missing : length m.core.values < 1 + n + place_size r → Acts m (selector_effect (a.owner k r n) m.core) m actings.Stuck
    owner_missing l = missing_by m.core.values refl l

    module _ (t : ℤ) (u : ℕ) (ss ns : List ℤ) (h : m.core.values ≡ t ∷ drop 1 m.core.values) (l : 1 + n + place_size r ≤ length m.core.values) (q : u ≡ natural t) (qs : ss ≡ reverse (take n (drop 1 m.core.values)))
        (qn : ns ≡ reverse (take (place_size r) (drop (1 + n) m.core.values))) where
      abbrev left : Core
      left = with_values m.core (drop n (drop 1 m.core.values))

      abbrev found_here : Found ℕ
      found_here = owner_found (own_at m.core.coarrays k) (is_established m.core (made_team (own_at m.core.coarrays k)) u) (members m.core u) ss (place_in ns)

      owner_by : (e : Kept) (w : Acting) (x : Found ℕ) → x ≡ found_here → Acts m (found_in x (λ i. giving (pos i) left)) e w → Acts m (selector_effect (a.owner k r n) m.core) e w
      owner_by e w x f g =
          let vs = drop 1 m.core.values in
          let lv = length-drop 1 m.core.values in
          let ln = length-drop n vs in
          let sn : reverse (take (place_size r) (drop n vs)) ≡ ns = ap (λ ws. reverse (take (place_size r) ws)) (drop-drop n 1 m.core.values) ∙ sym qn in
          let y : Found ℕ = owner_found (own_at m.core.coarrays k) (is_established m.core (made_team (own_at m.core.coarrays k)) (natural t)) (members m.core (natural t)) (reverse (take n vs)) (place_in (reverse (take (place_size r) (drop n vs)))) in
          let z : x ≡ y = f
          ∙ ap (λ i. owner_found (own_at m.core.coarrays k) (is_established m.core (made_team (own_at m.core.coarrays k)) i) (members m.core i) ss (place_in ns)) q
          ∙ ap (λ ws. owner_found (own_at m.core.coarrays k) (is_established m.core (made_team (own_at m.core.coarrays k)) (natural t)) (members m.core (natural t)) ws (place_in ns)) qs
          ∙ ap (λ ws. owner_found (own_at m.core.coarrays k) (is_established m.core (made_team (own_at m.core.coarrays k)) (natural t)) (members m.core (natural t)) (reverse (take n vs)) (place_in ws)) (sym sn) in
          one_taken m e w t vs of_team h
          (took m e w (with_values m.core vs) n (λ us d. of_place t us d) (omega arith)
          (seen_in e w left (λ us. owner_in left (natural t) (own_at m.core.coarrays k) (reverse (take n vs)) (place_in us)) (omega arith)
          (subst (λ a'. Acts m a' e w) (sym (owner_is left (natural t) (own_at m.core.coarrays k) (reverse (take n vs)) (place_in (reverse (take (place_size r) (drop n vs))))))
          (subst (λ a'. Acts m (found_in a' (λ i. giving (pos i) left)) e w) z g))))

    pub owner_faults : (t : ℤ) (u f : ℕ) (ss ns : List ℤ) → m.core.values ≡ t ∷ drop 1 m.core.values → 1 + n + place_size r ≤ length m.core.values → u ≡ natural t → ss ≡ reverse (take n (drop 1 m.core.values))
        → ns ≡ reverse (take (place_size r) (drop (1 + n) m.core.values))
        → at_fault f ≡ owner_found (own_at m.core.coarrays k) (is_established m.core (made_team (own_at m.core.coarrays k)) u) (members m.core u) ss (place_in ns) → Acts m (selector_effect (a.owner k r n) m.core) m (actings.Fault f)
    owner_faults t u f ss ns h l q qs qn g = owner_by t u ss ns h l q qs qn m (actings.Fault f) (at_fault f) g (refl, refl)

    pub owner_told : (e : Kept) (t : ℤ) (u i : ℕ) (ss ns : List ℤ) → m.core.values ≡ t ∷ drop 1 m.core.values → 1 + n + place_size r ≤ length m.core.values → u ≡ natural t → ss ≡ reverse (take n (drop 1 m.core.values))
        → ns ≡ reverse (take (place_size r) (drop (1 + n) m.core.values))
        → found i ≡ owner_found (own_at m.core.coarrays k) (is_established m.core (made_team (own_at m.core.coarrays k)) u) (members m.core u) ss (place_in ns)
        → e ≡ with_core m (with_values m.core (pos i ∷ drop 1 (drop n m.core.values))) → Acts m (selector_effect (a.owner k r n) m.core) e actings.Done
    owner_told e t u i ss ns h l q qs qn f g =
        let s : drop 1 (drop n m.core.values) ≡ drop n (drop 1 m.core.values) = drop-drop 1 n m.core.values ∙ ap (λ j. drop j m.core.values) (omega arith) ∙ sym (drop-drop n 1 m.core.values) in
        owner_by t u ss ns h l q qs qn e actings.Done (found i) f (refl, g ∙ ap (λ ws. with_core m (with_values m.core (pos i ∷ ws))) s)

  -- the index of cosubscripts in the top array
  module _ (k n : ℕ) where
    abbrev indexed_in : ℤ → Array → Core → Acted
    indexed_in t x e = unless shape_fault (length x.elements == n) (owned (own_at e.coarrays k) (λ o. giving (pos (index_of o x.elements (length (members e (natural t))))) e))

    abbrev of_array : ℤ → Core → Acted
    of_array t d = taking_array d (λ x e. indexed_in t x e)

    no_array : (t : ℤ) (c : Core) (xs : List Array) → length xs < 1 → Acts m (elim xs [ [] ↦ stuck | y ∷ ys ↦ indexed_in t y (with_arrays c ys) ]) m actings.Stuck
    no_array t c [] h = (refl, refl)
    no_array t c (y ∷ ys) h = absurd (omega arith)

    pub array_missing : (t : ℤ) (vs : List ℤ) → m.core.values ≡ t ∷ vs → length m.core.arrays < 1 → Acts m (selector_effect (a.image_index k n) m.core) m actings.Stuck
    array_missing t vs h l = one_taken m m actings.Stuck t vs of_array h (no_array t (with_values m.core vs) m.core.arrays l)

    indexed : (b : Bool) (o : Option Own) (ss : List ℤ) (i : ℕ) (c : Core) → unless shape_fault b (owned o (λ p. giving (pos (index_of p ss i)) c))
        ≡ found_in (with_found (cond b (own_index o ss i) (at_fault shape_fault)) (λ j. found (pos j))) (λ z. giving z c)
    indexed false o ss i c = refl
    indexed true None ss i c = refl
    indexed true (Some o) ss i c = refl

    index_in_top : (e : Kept) (w : Acting) (t : ℤ) (c : Core) (xs : List Array) → 1 ≤ length xs
        → Acts m (found_in (with_found (index_found (own_at c.coarrays k) n (elements_on_top xs) (length (members c (natural t)))) (λ j. found (pos j))) (λ z. giving z (with_arrays c (drop 1 xs)))) e w
        → Acts m (elim xs [ [] ↦ stuck | y ∷ ys ↦ indexed_in t y (with_arrays c ys) ]) e w
    index_in_top e w t c [] h g = absurd (omega arith)
    index_in_top e w t c (y ∷ ys) h g = subst (λ x. Acts m x e w) (sym (indexed (length y.elements == n) (own_at c.coarrays k) y.elements (length (members c (natural t))) (with_arrays c ys))) g

    index_by : (e : Kept) (w : Acting) (t : ℤ) (u : ℕ) (x : Found ℤ) → m.core.values ≡ t ∷ drop 1 m.core.values → 1 ≤ length m.core.arrays → u ≡ natural t
        → x ≡ with_found (index_found (own_at m.core.coarrays k) n (elements_on_top m.core.arrays) (length (members m.core u))) (λ j. found (pos j))
        → Acts m (found_in x (λ z. giving z (with_arrays (with_values m.core (drop 1 m.core.values)) (drop 1 m.core.arrays)))) e w → Acts m (selector_effect (a.image_index k n) m.core) e w
    index_by e w t u x h l q f g =
        let s = f ∙ ap (λ i. with_found (index_found (own_at m.core.coarrays k) n (elements_on_top m.core.arrays) (length (members m.core i))) (λ j. found (pos j))) q in
        one_taken m e w t (drop 1 m.core.values) of_array h
        (index_in_top e w t (with_values m.core (drop 1 m.core.values)) m.core.arrays l (subst (λ y. Acts m (found_in y (λ z. giving z (with_arrays (with_values m.core (drop 1 m.core.values)) (drop 1 m.core.arrays)))) e w) s g))

    pub index_faults : (t : ℤ) (u f : ℕ) → m.core.values ≡ t ∷ drop 1 m.core.values → 1 ≤ length m.core.arrays → u ≡ natural t
        → at_fault f ≡ with_found (index_found (own_at m.core.coarrays k) n (elements_on_top m.core.arrays) (length (members m.core u))) (λ j. found (pos j)) → Acts m (selector_effect (a.image_index k n) m.core) m (actings.Fault f)
    index_faults t u f h l q g = index_by m (actings.Fault f) t u (at_fault f) h l q g (refl, refl)

    pub index_told : (e : Kept) (t v : ℤ) (u : ℕ) → m.core.values ≡ t ∷ drop 1 m.core.values → 1 ≤ length m.core.arrays → u ≡ natural t
        → found v ≡ with_found (index_found (own_at m.core.coarrays k) n (elements_on_top m.core.arrays) (length (members m.core u))) (λ j. found (pos j))
        → e ≡ with_core m (with_arrays (with_values m.core (v ∷ drop 1 m.core.values)) (drop 1 m.core.arrays)) → Acts m (selector_effect (a.image_index k n) m.core) e actings.Done
    index_told e t v u h l q f g = index_by e actings.Done t u (found v) h l q f (refl, g)

  -- the cosubscript with a number
  module _ (k : ℕ) where
    abbrev numbered_cosubscript : List ℤ → ℕ → Core → Acted
    numbered_cosubscript ss zero c = faults bounds_fault
    numbered_cosubscript ss (suc i) c = elim (slice_get ss i) [ None ↦ faults bounds_fault | Some v ↦ unless overflow (fits_kind kinds.I4 v) (giving v c) ]

    fits_or_not : (b : Bool) (v : ℤ) (c : Core) → unless overflow b (giving v c) ≡ found_in (cond b (found v) (at_fault overflow)) (λ w. giving w c)
    fits_or_not true v c = refl
    fits_or_not false v c = refl

    there_or_not : (o : Option ℤ) (c : Core) → elim o [ None ↦ faults bounds_fault | Some v ↦ unless overflow (fits_kind kinds.I4 v) (giving v c) ] ≡ found_in (of_kind_4 o) (λ w. giving w c)
    there_or_not None c = refl
    there_or_not (Some v) c = fits_or_not (fits_kind kinds.I4 v) v c

    numbered_is : (ss : List ℤ) (n : ℕ) (c : Core) → numbered_cosubscript ss n c ≡ found_in (of_kind_4 (numbered_in ss n)) (λ w. giving w c)
    numbered_is ss zero c = refl
    numbered_is ss (suc i) c = there_or_not (slice_get ss i) c

    cosubscript_is : (o : Option Own) (n : ℕ) (dim : ℤ) (c : Core) → owned o (λ p. numbered_cosubscript (cosubscripts_behind p.lowers p.extents n) (natural dim) c) ≡ found_in (own_cosubscript o n dim) (λ w. giving w c)
    cosubscript_is None n dim c = refl
    cosubscript_is (Some o) n dim c = numbered_is (cosubscripts_behind o.lowers o.extents n) (natural dim) c

    abbrev cosubscript_in : ℤ → ℤ → Core → Acted
    cosubscript_in dim t e = owned (own_at e.coarrays k) (λ o. numbered_cosubscript (cosubscripts_behind o.lowers o.extents (index_in e.me (members e (natural t)) - 1)) (natural dim) e)

    pub two_missing : length m.core.values < 2 → Acts m (selector_effect (a.cosubscript k) m.core) m actings.Stuck
    two_missing h = two_not_taken m cosubscript_in h

    cosubscript_by : (e : Kept) (w : Acting) (t dim : ℤ) (u : ℕ) (x : Found ℤ) → m.core.values ≡ t ∷ dim ∷ drop 2 m.core.values → u ≡ natural t
        → x ≡ own_cosubscript (own_at m.core.coarrays k) (index_in m.core.me (members m.core u) - 1) dim
        → Acts m (found_in x (λ z. giving z (with_values m.core (drop 2 m.core.values)))) e w → Acts m (selector_effect (a.cosubscript k) m.core) e w
    cosubscript_by e w t dim u x h q f g =
        let d = with_values m.core (drop 2 m.core.values) in
        let s = f ∙ ap (λ i. own_cosubscript (own_at m.core.coarrays k) (index_in m.core.me (members m.core i) - 1) dim) q in
        two_taken m e w dim t (drop 2 m.core.values) cosubscript_in h
        (subst (λ y. Acts m y e w) (sym (cosubscript_is (own_at m.core.coarrays k) (index_in m.core.me (members m.core (natural t)) - 1) dim d)) (subst (λ y. Acts m (found_in y (λ z. giving z d)) e w) s g))

    pub cosubscript_faults : (t dim : ℤ) (u f : ℕ) → m.core.values ≡ t ∷ dim ∷ drop 2 m.core.values → u ≡ natural t
        → at_fault f ≡ own_cosubscript (own_at m.core.coarrays k) (index_in m.core.me (members m.core u) - 1) dim → Acts m (selector_effect (a.cosubscript k) m.core) m (actings.Fault f)
    cosubscript_faults t dim u f h q g = cosubscript_by m (actings.Fault f) t dim u (at_fault f) h q g (refl, refl)

    pub cosubscript_told : (e : Kept) (t dim v : ℤ) (u : ℕ) → m.core.values ≡ t ∷ dim ∷ drop 2 m.core.values → u ≡ natural t
        → found v ≡ own_cosubscript (own_at m.core.coarrays k) (index_in m.core.me (members m.core u) - 1) dim → e ≡ with_core m (with_values m.core (v ∷ drop 2 m.core.values)) → Acts m (selector_effect (a.cosubscript k) m.core) e actings.Done
    cosubscript_told e t dim v u h q f g = cosubscript_by e actings.Done t dim u (found v) h q f (refl, g)

-- the numbers of a place that is seen are there
pub place_there : (vs : List ℤ) (d r n : ℕ) → n ≡ place_size r → n ≤ length (drop d vs) → d + place_size r ≤ length vs
place_there vs d r n h l = omega (arith, length-drop d vs)

-- an index is no greater than the number of images
in_team : (b : Bool) (i n : ℕ) → nat_le i n ≡ b → cond b i 0 ≤ n
in_team true i n h = leb-true i n h
in_team false i n h = omega arith

named_in : (b : Bool) (i n : ℕ) → cond b (cond (nat_le i n) i 0) 0 ≤ n
named_in true i n = in_team (nat_le i n) i n refl
named_in false i n = omega arith

own_small : (o : Option Own) (ss : List ℤ) (n i : ℕ) → own_index o ss n ≡ found i → i ≤ n
own_small None ss n i h = absurd (cc)
own_small (Some o) ss n i h = let q : index_of o ss n ≡ i = cc in subst (λ j. j ≤ n) q (named_in (are_within_cobounds o.lowers o.extents ss) (image_order o.lowers o.extents ss + 1) n)

found_small : (b : Bool) (o : Option Own) (ss : List ℤ) (n i : ℕ) → cond b (own_index o ss n) (at_fault shape_fault) ≡ found i → i ≤ n
found_small true o ss n i h = own_small o ss n i h
found_small false o ss n i h = absurd (cc)

pub index_small : (o : Option Own) (k : ℕ) (ss : List ℤ) (n i : ℕ) → found i ≡ index_found o k ss n → i ≤ n
index_small o k ss n i h = found_small (length ss == k) o ss n i (sym h)
