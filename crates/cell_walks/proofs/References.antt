-- A reference to a coarray that is read: the place of its section, its owner, and the ask.
use Rattle.std.proofs.Common.{◌≡◌, ◌∙◌, ℕ, zero, suc, ◌+◌, ◌≤◌, Bool, true, false, cond, List, [], ◌∷◌, ◌++◌, length, refl, ap, sym, subst, append_assoc, arith}
use Rattle.std.specs.Prelude.{map, filter, ℤ, pos, ◌==◌, ◌||◌, not, nat_lt, nat_le, Option, None, Some}
use Rattle.std.proofs.lemmas.Bool.{leb-true, eqb-true, eqb-false}
use Rattle.caf_base.specs.Arithmetic.{natural}
use Rattle.walk_theory.specs.Language as language
use Rattle.walk_theory.specs.Syntax.{Parts, end_parts, value, act, either}
use Rattle.walk_theory.specs.Terms.{Found, found, at_fault}
use Rattle.object_rules.specs.Cells.{Declared}
use Rattle.object_rules.specs.SpanTests.{is_span}
use Rattle.core_runs.specs.Beginnings.{IsOneOf}
use Rattle.image_acts.specs.Statuses.{most_access_cells}
use Rattle.image_acts.specs.Faults.{cobounds_fault, not_established, cells_fault}
use Rattle.image_acts.specs.Words.{word, short}
use Rattle.image_acts.specs.Acts as a
use Rattle.image_acts.specs.Acts.{Act, stack, bounded, selector, ask}
use Rattle.image_acts.specs.Core.{Core, Own, with_values, with_array, pushed}
use Rattle.image_acts.specs.Owning.{own_in}
use Rattle.image_acts.specs.Places.{Place, place_in, dims_in, place_size, cells_of, extents_of, product, digits, numbers_of_form, triplets, subscripts_in, place_within, no_dims, no_place, place_numbers, dims_numbers}
use Rattle.image_acts.specs.Replies.{status_of, read_reply}
use Rattle.image_acts.specs.Teams.{members, index_of, is_established, member_at}
use Rattle.image_acts.specs.Taking.{Acted, given, giving, telling, found_in, unless, taken, put_down, seeing}
use Rattle.image_acts.specs.Operate.Asking.{span_of, image}
use Rattle.caf_events.specs.declared.ask.Ask.TheVariants as asking
use Rattle.image_acts.specs.Meaning.{settled, effect_of}
use Rattle.stack_laws.proofs.Standing.{taken_of, put_down_on, put_down_long}
use Rattle.stack_laws.proofs.Places.{no_place_long, place_long}
use Rattle.section_spans.proofs.Spans.{section_span}
use Rattle.cell_walks.specs.Fitting.{Sizes, IsSound, EffectFits, PartsFit}
use Rattle.cell_walks.proofs.Images.{word_image, small_in, team_images, member_image, index_in_team}

-- ---- numbers that were put down are taken as they were
append_none : (xs : List ℤ) → xs ++ [] ≡ xs
append_none [] = refl
append_none (x ∷ xs) = ap (λ z. x ∷ z) (append_none xs)

pub put_back : (bs ys zs : List ℤ) → put_down (put_down bs ys) zs ≡ put_down ys (bs ++ zs)
put_back [] ys zs = refl
put_back (b ∷ bs) ys zs = put_back bs (b ∷ ys) zs

pub taken_back : (m : ℕ) (ns us : List ℤ) → length ns ≡ m → taken m (put_down ns us) [] ≡ Some (ns, us)
taken_back m ns us e =
    let l : length (put_down ns []) ≡ m = put_down_long ns [] ∙ (let z = e in omega arith) in
    ap (λ z. taken m z []) (put_down_on ns [] us) ∙ (taken_of m (put_down ns []) us l ∙ ap (λ z. Some (z, us)) (put_back ns [] [] ∙ append_none ns))

-- ---- places
dims_back : (ds : List (ℕ × ℤ)) → dims_in (dims_numbers ds) ≡ ds
dims_back [] = refl
dims_back (d ∷ ds) = ap (λ z. d ∷ z) (dims_back ds)

abbrev at_start : ℤ → List (ℕ × ℤ) → Place
at_start s ds = record { start = s; dims = ds }

pub place_back : (p : Place) → place_in (place_numbers p) ≡ p
place_back p = ap (at_start p.start) (dims_back p.dims)

one_each : (m : ℕ) → filter (λ (d : ℕ × ℤ). nat_lt 1 d.0) (no_dims m) ≡ []
one_each zero = refl
one_each (suc m) = one_each m

no_place_span : (k m : ℕ) → is_span (span_of k (no_place m)) ≡ true
no_place_span k m = ap (λ (z : List (ℕ × ℤ)). is_span (record { coarray = k; start = word (pos 0); dims = map (λ (d : ℕ × ℤ). (word (pos d.0), short d.1)) z })) (one_each m)

no_dims_in : (ds : List (ℕ × ℤ)) → suc (length (dims_numbers ds)) ≡ 1 → ds ≡ []
no_dims_in [] e = refl
no_dims_in (d ∷ ds) e = absurd (let z : suc (suc (suc (length (dims_numbers ds)))) ≡ 1 = e in omega arith)

none_there : {A : Type 0} (m : ℕ) → (m == 0) ≡ true → 1 ≤ m → A
none_there m e l = absurd (let z = eqb-true m 0 e in omega arith)

one_cell : (p : Place) → length (place_numbers p) ≡ 1 → 1 ≤ cells_of p
one_cell p e = subst (λ (ds : List (ℕ × ℤ)). 1 ≤ product (map (λ d. d.0) ds)) (sym (no_dims_in p.dims e)) (let z : 1 ≤ 1 = omega arith in z)

-- the place of a section of coarray k, of this rank: its span is one, where it has cells, and no more than an access
-- may have
pub record IsSpanned (k rank : ℕ) (p : Place) : Type 0 where
  pub numbers : length (place_numbers p) ≡ place_size rank
  pub spans : 1 ≤ cells_of p → cells_of p ≤ most_access_cells → is_span (span_of k p) ≡ true

-- the section at the place and owner on top is read; one without cells makes no access
abbrev pub reading : ℕ → ℕ → Parts Act
reading k zero = act (ask (a.read k 0)) end_parts
reading k (suc r) = value (act (bounded (a.some_cells 1 (suc r))) end_parts) (either (act (ask (a.read k (suc r))) end_parts) (act (stack (a.nothing_read (suc r))) end_parts) end_parts)

-- what is there where a section without cells was read
abbrev emptied : Place → Core → Core
emptied p c = pushed (pos 0) (with_array (record { extents = extents_of p; elements = [] }) c)

-- numbers beneath some others come to the top, where there are any
abbrev pub lifting : ℕ → ℕ → Parts Act
lifting depth m = cond ((depth == 0) || (m == 0)) end_parts (act (stack (a.bring depth m)) end_parts)

no_numbers : (xs : List ℤ) → length xs ≡ 0 → xs ≡ []
no_numbers [] e = refl
no_numbers (x ∷ xs) e = absurd (let f : suc (length xs) ≡ 0 = e in omega arith)

one_number : (xs : List ℤ) → length xs ≡ 1 → (v : ℤ) × (xs ≡ v ∷ [])
one_number [] e = absurd (let f : 0 ≡ 1 = e in omega arith)
one_number (x ∷ []) e = (x, refl)
one_number (x ∷ y ∷ xs) e = absurd (let f : suc (suc (length xs)) ≡ 1 = e in omega arith)

long : (xs ys : List ℤ) → length (xs ++ ys) ≡ length xs + length ys
long [] ys = omega arith
long (x ∷ xs) ys = (let h = long xs ys in omega arith)

module _ (n me : ℕ) (coarrays : List Declared) (readable : ℕ → Bool) where
  abbrev Sound : Sizes → Core → Type 0
  Sound z c = IsSound n me z c

  abbrev Comes : Sizes → Acted → (Sizes → Core → Type 0) → Type 0
  Comes z e After = EffectFits n me coarrays readable e After z

  abbrev Fit : Parts Act → (Sizes → Core → Type 0) → Sizes → Core → Type 0
  Fit p After z c = PartsFit n me coarrays readable p After z c

  -- parts that fit wherever the invariant holds, and leave m numbers on those that stand there
  abbrev pub Passes : ℕ → Parts Act → Type 1
  Passes m p = (vs : List ℤ) (After : Sizes → Core → Type 0) (y : Sizes) (c : Core) → Sound y c → c.values ≡ vs
      → ((u : Sizes) (d : Core) (xs : List ℤ) → Sound u d → length xs ≡ m → d.values ≡ xs ++ vs → After u d) → Fit p After y c

  -- ---- the place
  abbrev co_placing : Option Own → List ℕ → List ℤ → Core → Acted
  co_placing None ds vs c = language.goes_to (with_values c (put_down (place_numbers (no_place (triplets ds))) c.values))
  co_placing (Some o) ds vs c = found_in (place_within o.bounds (subscripts_in ds vs)) (λ p. language.goes_to (with_values c (put_down (place_numbers p) c.values)))

  pub sectioned : (k form rank : ℕ) (z : Sizes) (c : Core) (xs vs : List ℤ) → length xs ≡ numbers_of_form (digits form) → triplets (digits form) ≡ rank → Sound z c → (After : Sizes → Core → Type 0)
      → ((p : Place) → IsSpanned k rank p → After z (with_values c (put_down (place_numbers p) vs))) → Comes z (effect_of (bounded (a.co_section k form)) (with_values c (xs ++ vs))) After
  sectioned k form rank z c xs vs h t i After more =
      subst (λ o. Comes z (settled x (given o (λ p. co_placing (own_in c k) ds p.0 (with_values c p.1)))) After) (sym (taken_of (numbers_of_form ds) xs vs h)) (by_own (own_in c k) refl)
    where
      x : Act
      x = bounded (a.co_section k form)

      ds : List ℕ
      ds = digits form

      ys : List ℤ
      ys = put_down xs []

      by_found : (o : Own) → own_in c k ≡ Some o → (f : Found Place) → place_within o.bounds (subscripts_in ds ys) ≡ f
          → Comes z (settled x (found_in f (λ p. language.goes_to (with_values c (put_down (place_numbers p) vs))))) After
      by_found o e (found p) q =
          more p (record { numbers = place_long o.bounds ds ys p q ∙ ap place_size t; spans = λ some few. (section_span k o.bounds (subscripts_in ds ys) p (small_in c.coarrays k o i.coarrays e) q some few).0 })
      by_found o e (at_fault j) q = tt

      by_own : (o : Option Own) → own_in c k ≡ o → Comes z (settled x (co_placing o ds ys (with_values c vs))) After
      by_own None e = more (no_place (triplets ds)) (record { numbers = no_place_long (triplets ds) ∙ ap place_size t; spans = λ some few. no_place_span k (triplets ds) })
      by_own (Some o) e = by_found o e (place_within o.bounds (subscripts_in ds ys)) refl

  -- ---- the owner
  -- the image on top of a place: one of the run, where the section has cells
  abbrev pub Owns : ℕ → Place → Type 0
  Owns o p = (1 ≤ cells_of p → IsOneOf n o) × (cells_of p ≤ most_access_cells)

  at_image : (x : Act) (z : Sizes) (c : Core) (p : Place) (us : List ℤ) (After : Sizes → Core → Type 0) → (cells_of p ≤ most_access_cells → After z (with_values c (pos c.me ∷ us))) → (b : Bool) → nat_le (cells_of p) most_access_cells ≡ b
      → Comes z (settled x (unless cells_fault b (giving (pos c.me) (with_values c us)))) After
  at_image x z c p us After more true e = more (leb-true (cells_of p) most_access_cells e)
  at_image x z c p us After more false e = tt

  pub own_imaged : (k rank : ℕ) (z : Sizes) (c : Core) (p : Place) (us : List ℤ) → IsSpanned k rank p → Sound z c → (After : Sizes → Core → Type 0)
      → (Owns c.me p → After z (with_values c (pos c.me ∷ put_down (place_numbers p) us))) → Comes z (effect_of (selector (a.own_image rank)) (with_values c (put_down (place_numbers p) us))) After
  own_imaged k rank z c p us s i After more =
      let x = selector (a.own_image rank) in
      let ns = place_numbers p in
      let e = with_values c (put_down ns us) in
      subst (λ o. Comes z (settled x (given o (λ q. unless cells_fault (nat_le (cells_of (place_in q.0)) most_access_cells) (giving (pos c.me) e)))) After) (sym (taken_back (place_size rank) ns us s.numbers))
      (subst (λ (q : Place). Comes z (settled x (unless cells_fault (nat_le (cells_of q) most_access_cells) (giving (pos c.me) e))) After) (sym (place_back p))
      (at_image x z c p (put_down ns us) After (λ few. more (λ some. subst (IsOneOf n) (sym i.own) i.image, few)) (nat_le (cells_of p) most_access_cells) refl))

  abbrev selected : Core → ℕ → Own → Place → ℕ → Acted
  selected c t o p i =
      unless cobounds_fault (not (i == 0) || (cells_of p == 0)) (unless not_established (is_established c o.team t) (unless cells_fault (nat_le (cells_of p) most_access_cells) (giving (pos (member_at (members c t) i)) c)))

  abbrev owner_in : Core → ℕ → Option Own → List ℤ → Place → Acted
  owner_in c t None ss p = language.faults not_established
  owner_in c t (Some o) ss p = selected c t o p (index_of o ss (length (members c t)))

  pub imaged : (k rank corank : ℕ) (z : Sizes) (c : Core) (t : ℤ) (ys : List ℤ) (p : Place) (us : List ℤ) → length ys ≡ corank → IsSpanned k rank p → Sound z c → (After : Sizes → Core → Type 0)
      → ((o : ℕ) → Owns o p → After z (with_values c (pos o ∷ put_down (place_numbers p) us))) → Comes z (effect_of (selector (a.owner k rank corank)) (with_values c (t ∷ (ys ++ put_down (place_numbers p) us)))) After
  imaged k rank corank z c t ys p us h s i After more =
      subst (λ o. Comes z (settled x (given o (λ q. seeing 0 (place_size rank) (with_values c q.1) (λ ns. owner_in (with_values c q.1) (natural t) (own_in c k) q.0 (place_in ns))))) After)
      (sym (taken_of corank ys (put_down (place_numbers p) us) h))
      (subst (λ o. Comes z (settled x (given o (λ q. owner_in e (natural t) (own_in c k) (put_down ys []) (place_in q.0)))) After) (sym (taken_back (place_size rank) (place_numbers p) us s.numbers))
      (subst (λ (q : Place). Comes z (settled x (owner_in e (natural t) (own_in c k) (put_down ys []) q)) After) (sym (place_back p)) (by_own (own_in c k))))
    where
      x : Act
      x = selector (a.owner k rank corank)

      e : Core
      e = with_values c (put_down (place_numbers p) us)

      ms : List ℕ
      ms = members c (natural t)

      by_index : (j : ℕ) → j ≤ length ms → (b d l w : Bool) → (j == 0) ≡ b → (cells_of p == 0) ≡ w → nat_le (cells_of p) most_access_cells ≡ l
          → Comes z (settled x (unless cobounds_fault (not b || w) (unless not_established d (unless cells_fault l (giving (pos (member_at ms j)) e))))) After
      by_index j m true d l false f g q = tt
      by_index j m true true true true f g q = more (member_at ms j) (λ some. none_there (cells_of p) g some, leb-true (cells_of p) most_access_cells q)
      by_index j m true true false true f g q = tt
      by_index j m true false l true f g q = tt
      by_index j m false true true w f g q = more (member_at ms j) (λ some. member_image n ms j (team_images n (natural t) c.known i.known) f m, leb-true (cells_of p) most_access_cells q)
      by_index j m false true false w f g q = tt
      by_index j m false false l w f g q = tt

      by_own : (o : Option Own) → Comes z (settled x (owner_in e (natural t) o (put_down ys []) p)) After
      by_own None = tt
      by_own (Some o) =
          let j = index_of o (put_down ys []) (length ms) in
          by_index j (index_in_team o (put_down ys []) (length ms)) (j == 0) (is_established e o.team (natural t)) (nat_le (cells_of p) most_access_cells) (cells_of p == 0) refl refl refl

  -- ---- the read
  read_asked : (k rank : ℕ) → readable k ≡ true → (z : Sizes) (c : Core) (o : ℕ) (p : Place) (us : List ℤ) → IsSpanned k rank p → Owns o p → 1 ≤ cells_of p → Sound z c → (After : Sizes → Core → Type 0)
      → ((d : Core) (s : ℤ) → Sound z d → d.values ≡ s ∷ us → After z d) → Comes z (effect_of (ask (a.read k rank)) (with_values c (pos o ∷ put_down (place_numbers p) us))) After
  read_asked k rank values z c o p us s w some i After more =
      let x = ask (a.read k rank) in
      let e = with_values c us in
      subst (λ y. Comes z (settled x (given y (λ q. language.asking (asking.Read (image (pos o)) (span_of k (place_in q.0))) (read_reply (place_in q.0) (with_values c q.1))))) After) (sym (taken_back (place_size rank) (place_numbers p) us s.numbers))
      (subst (λ (q : Place). Comes z (settled x (language.asking (asking.Read (image (pos o)) (span_of k q)) (read_reply q e))) After) (sym (place_back p))
      ((word_image n o (w.0 some), s.spans some w.1, values), λ r told. more (read_reply p e r) (status_of r) i refl))

  nothing_read : (rank : ℕ) (k : ℕ) (z : Sizes) (c : Core) (o : ℕ) (p : Place) (us : List ℤ) → IsSpanned k rank p → Sound z c → (After : Sizes → Core → Type 0)
      → ((d : Core) (s : ℤ) → Sound z d → d.values ≡ s ∷ us → After z d) → Comes z (effect_of (stack (a.nothing_read rank)) (with_values c (pos o ∷ put_down (place_numbers p) us))) After
  nothing_read rank k z c o p us s i After more =
      let x = stack (a.nothing_read rank) in
      subst (λ y. Comes z (settled x (given y (λ q. language.goes_to (emptied (place_in q.0) (with_values c q.1))))) After) (sym (taken_back (place_size rank) (place_numbers p) us s.numbers))
      (more (emptied (place_in (place_numbers p)) (with_values c us)) (pos 0) i refl)

  -- behind the test whether the section has cells
  abbrev Chosen : (k r : ℕ) → (Sizes → Core → Type 0) → Sizes → Core → Type 0
  Chosen k r After y d = Fit (either (act (ask (a.read k (suc r))) end_parts) (act (stack (a.nothing_read (suc r))) end_parts) end_parts) After y d

  pub reading_fits : (k rank : ℕ) → readable k ≡ true → (z : Sizes) (c : Core) (o : ℕ) (p : Place) (us : List ℤ) → IsSpanned k rank p → Owns o p → Sound z c → c.values ≡ pos o ∷ put_down (place_numbers p) us
      → (After : Sizes → Core → Type 0) → ((d : Core) (s : ℤ) → Sound z d → d.values ≡ s ∷ us → After z d) → Fit (reading k rank) After z c
  reading_fits k zero values z c o p us s w i v After more =
      subst (λ y. Comes z (effect_of (ask (a.read k 0)) (with_values c y)) After) (sym v) (read_asked k 0 values z c o p us s w (one_cell p s.numbers) i After more)
  reading_fits k (suc r) values z c o p us s w i v After more =
      let x = bounded (a.some_cells 1 (suc r)) in
      let e = with_values c (pos o ∷ put_down (place_numbers p) us) in
      subst (λ y. Comes z (effect_of x (with_values c y)) (Chosen k r After)) (sym v)
      (subst (λ y. Comes z (settled x (given y (λ q. telling (not (cells_of (place_in q.0) == 0)) e))) (Chosen k r After)) (sym (taken_back (place_size (suc r)) (place_numbers p) us s.numbers))
      (subst (λ (q : Place). Comes z (settled x (telling (not (cells_of q == 0)) e)) (Chosen k r After)) (sym (place_back p)) (by_cells (cells_of p == 0) refl)))
    where
      by_cells : (b : Bool) → (cells_of p == 0) ≡ b → Comes z (settled (bounded (a.some_cells 1 (suc r))) (telling (not b) (with_values c (pos o ∷ put_down (place_numbers p) us)))) (Chosen k r After)
      by_cells true q = nothing_read (suc r) k z c o p us s i After more
      by_cells false q = read_asked k (suc r) values z c o p us s w (let y = eqb-false (cells_of p) 0 q in omega arith) i After more

  -- ---- numbers beneath some others come to the top
  brought_up : (o m : ℕ) (z : Sizes) (c : Core) (ps bs us : List ℤ) → length ps ≡ o → length bs ≡ m → (After : Sizes → Core → Type 0) → After z (with_values c (bs ++ (ps ++ us)))
      → Comes z (effect_of (stack (a.bring o m)) (with_values c (ps ++ (bs ++ us)))) After
  brought_up o m z c ps bs us h g After more =
      let x = stack (a.bring o m) in
      let last : put_down (put_down bs []) (put_down (put_down ps []) us) ≡ bs ++ (ps ++ us) = put_back bs [] (put_down (put_down ps []) us) ∙ ap (λ y. bs ++ y) (put_back ps [] us) in
      subst (λ y. Comes z (settled x (given y (λ p. given (taken m p.1 []) (λ q. language.goes_to (with_values c (put_down q.0 (put_down p.0 q.1))))))) After) (sym (taken_of o ps (bs ++ us) h))
      (subst (λ y. Comes z (settled x (given y (λ q. language.goes_to (with_values c (put_down q.0 (put_down (put_down ps []) q.1)))))) After) (sym (taken_of m bs us g))
      (subst (λ y. After z (with_values c y)) (sym last) more))

  pub lifted : (o m : ℕ) (y : Sizes) (c : Core) (ps bs us : List ℤ) → length ps ≡ o → length bs ≡ m → Sound y c → c.values ≡ ps ++ (bs ++ us) → (After : Sizes → Core → Type 0)
      → ((d : Core) → Sound y d → d.values ≡ bs ++ (ps ++ us) → After y d) → Fit (lifting o m) After y c
  lifted o m y c ps bs us l k i v After more = by_none (o == 0) (m == 0) refl refl
    where
      moved : Fit (act (stack (a.bring o m)) end_parts) After y c
      moved =
          subst (λ z. Comes y (effect_of (stack (a.bring o m)) (with_values c z)) After) (sym v)
          (brought_up o m y c ps bs us l k After (more (with_values c (bs ++ (ps ++ us))) i refl))

      by_none : (w x : Bool) → (o == 0) ≡ w → (m == 0) ≡ x → Fit (cond (w || x) end_parts (act (stack (a.bring o m)) end_parts)) After y c
      by_none true x e f = more c i (let z = no_numbers ps (l ∙ eqb-true o 0 e) in v ∙ (ap (λ q. q ++ (bs ++ us)) z ∙ ap (λ q. bs ++ (q ++ us)) (sym z)))
      by_none false true e f = more c i (let z = no_numbers bs (k ∙ eqb-true m 0 f) in v ∙ (ap (λ q. ps ++ (q ++ us)) z ∙ ap (λ q. q ++ (ps ++ us)) (sym z)))
      by_none false false e f = moved

  -- ---- the whole reference
  -- behind the owner
  owner_read : (k rank : ℕ) → readable k ≡ true → (need : Parts Act) → Passes 0 need → (z : Sizes) (c : Core) (o : ℕ) (p : Place) (us : List ℤ) → IsSpanned k rank p → Owns o p → Sound z c
      → c.values ≡ pos o ∷ put_down (place_numbers p) us → (After : Sizes → Core → Type 0) → ((u : Sizes) (d : Core) (s : ℤ) → Sound u d → d.values ≡ s ∷ us → After u d) → Fit (value need (reading k rank)) After z c
  owner_read k rank values need needs z c o p us s w i v After more =
      needs (pos o ∷ put_down (place_numbers p) us) (Fit (reading k rank) After) z c i v
      (λ u d xs j l q. reading_fits k rank values u d o p us s w j (q ∙ ap (λ y. y ++ (pos o ∷ put_down (place_numbers p) us)) (no_numbers xs l)) After (more u))

  pub own_reference : (k form rank : ℕ) → readable k ≡ true → triplets (digits form) ≡ rank → (need : Parts Act) → Passes 0 need → (z : Sizes) (c : Core) (xs us : List ℤ) → length xs ≡ numbers_of_form (digits form)
      → Sound z c → c.values ≡ xs ++ us → (After : Sizes → Core → Type 0) → ((u : Sizes) (d : Core) (s : ℤ) → Sound u d → d.values ≡ s ∷ us → After u d)
      → Fit (value (act (bounded (a.co_section k form)) end_parts) (value (act (selector (a.own_image rank)) end_parts) (value need (reading k rank)))) After z c
  own_reference k form rank values t need needs z c xs us l i v After more =
      let x = bounded (a.co_section k form) in
      let y = selector (a.own_image rank) in
      let Read : Sizes → Core → Type 0 = Fit (value need (reading k rank)) After in
      subst (λ q. Comes z (effect_of x (with_values c q)) (Fit (act y end_parts) Read)) (sym v)
      (sectioned k form rank z c xs us l t i (Fit (act y end_parts) Read)
      (λ p s. own_imaged k rank z c p us s i Read
      (λ w. owner_read k rank values need needs z (with_values c (pos c.me ∷ put_down (place_numbers p) us)) c.me p us s w i refl After more)))

  -- with an image selector: cosubscripts, a team and the place of its STAT= variable
  pub reference : (k form rank corank stat : ℕ) → readable k ≡ true → triplets (digits form) ≡ rank → (cs team place need : Parts Act) → Passes corank cs → Passes 1 team → Passes stat place → Passes 0 need
      → (z : Sizes) (c : Core) (xs us : List ℤ) → length xs ≡ numbers_of_form (digits form) → Sound z c → c.values ≡ xs ++ us → (After : Sizes → Core → Type 0)
      → ((u : Sizes) (d : Core) (s : ℤ) (ps : List ℤ) → Sound u d → length ps ≡ stat → d.values ≡ s ∷ (ps ++ us) → After u d)
      → Fit (value (act (bounded (a.co_section k form)) end_parts) (value (value cs (value team (value place (value (lifting stat (place_size rank + (corank + 1))) (act (selector (a.owner k rank corank)) end_parts))))) (value need (reading k rank)))) After z c
  reference k form rank corank stat values t cs team place need pass_cs pass_team pass_place needs z c xs us l i v After more =
      let x = bounded (a.co_section k form) in
      let last : Parts Act = value (lifting stat (place_size rank + (corank + 1))) (act (selector (a.owner k rank corank)) end_parts) in
      let Read : Sizes → Core → Type 0 = Fit (value need (reading k rank)) After in
      subst (λ q. Comes z (effect_of x (with_values c q)) (Fit (value cs (value team (value place last))) Read)) (sym v)
      (sectioned k form rank z c xs us l t i (Fit (value cs (value team (value place last))) Read)
      (λ p s. pass_cs (put_down (place_numbers p) us) (Fit (value team (value place last)) Read) z (with_values c (put_down (place_numbers p) us)) i refl
      (λ u2 d2 ys i2 l2 v2. pass_team (ys ++ put_down (place_numbers p) us) (Fit (value place last) Read) u2 d2 i2 v2
      (λ u3 d3 ts i3 l3 v3. pass_place (ts ++ (ys ++ put_down (place_numbers p) us)) (Fit last Read) u3 d3 i3 v3
      (λ u4 d4 ps i4 l4 v4. owned p s u4 d4 ys ts ps i4 l2 l3 l4 v4)))))
    where
      owned : (p : Place) → IsSpanned k rank p → (u : Sizes) (d : Core) (ys ts ps : List ℤ) → Sound u d → length ys ≡ corank → length ts ≡ 1 → length ps ≡ stat → d.values ≡ ps ++ (ts ++ (ys ++ put_down (place_numbers p) us))
          → Fit (value (lifting stat (place_size rank + (corank + 1))) (act (selector (a.owner k rank corank)) end_parts)) (Fit (value need (reading k rank)) After) u d
      owned p s u d ys ts ps i' ly lt lp v' =
          let ns = place_numbers p in
          let zs = put_down ns [] in
          let x = selector (a.owner k rank corank) in
          let w = one_number ts lt in
          let bs = w.0 ∷ (ys ++ zs) in
          let Read : Sizes → Core → Type 0 = Fit (value need (reading k rank)) After in
          let back : (qs : List ℤ) → bs ++ qs ≡ w.0 ∷ (ys ++ put_down ns qs) = λ qs. ap (λ y. w.0 ∷ y) (append_assoc ys zs qs ∙ ap (λ y. ys ++ y) (sym (put_down_on ns [] qs))) in
          let here : d.values ≡ ps ++ (bs ++ us) = v' ∙ (ap (λ y. ps ++ (y ++ (ys ++ put_down ns us))) w.1 ∙ ap (λ y. ps ++ y) (sym (back us))) in
          let many : length bs ≡ place_size rank + (corank + 1) = (let q = long ys zs in let r = put_down_long ns [] in let f = s.numbers in omega arith) in
          lifted stat (place_size rank + (corank + 1)) u d ps bs us lp many i' here (Fit (act x end_parts) Read)
          (λ f g r. subst (λ y. Comes u (effect_of x (with_values f y)) Read) (sym (r ∙ back (ps ++ us)))
          (imaged k rank corank u f w.0 ys p (ps ++ us) ly s g Read
          (λ o q. owner_read k rank values need needs u (with_values f (pos o ∷ put_down ns (ps ++ us))) o p (ps ++ us) s q g refl After (λ u5 d5 st i5 v5. more u5 d5 st ps i5 lp v5))))
