-- What the place and the owner of one cell come to: the cell is one that a coarray can have, and the owner is an image
-- of the run.
use Rattle.std.proofs.Common.{◌≡◌, ℕ, zero, suc, ◌+◌, ◌≤◌, ◌<◌, Bool, true, false, List, [], ◌∷◌, ◌++◌, length, refl, ap, ap₂, sym, subst, arith}
use Rattle.std.specs.Prelude.{map, ℤ, pos, ◌==◌, ◌||◌, not, drop, nat_lt, nat_le, slice_get, Option, None, Some}
use Rattle.std.proofs.lemmas.Bool.{ltb-true, lt-ltb, and_from}
use Rattle.coarray_types.specs.Places.{size_of}
use Rattle.caf_base.specs.Arithmetic.{natural}
use Rattle.caf_events.specs.declared.ask.Ask.{Ask}
use Rattle.caf_events.specs.declared.reply.Reply.{Reply}
use Rattle.walk_theory.specs.Language as language
use Rattle.walk_theory.specs.Terms.{Found, found, at_fault}
use Rattle.object_rules.specs.Cells.{Content, Declared}
use Rattle.object_rules.specs.MemoryRules.{holds, is_cell_of}
use Rattle.core_runs.specs.Beginnings.{IsOneOf}
use Rattle.core_runs.specs.Lawful.{made_memory}
use Rattle.image_acts.specs.Statuses.{most_cells, most_access_cells}
use Rattle.image_acts.specs.Faults.{cobounds_fault, not_allocated, not_established, cells_fault}
use Rattle.image_acts.specs.Words.{word}
use Rattle.image_acts.specs.Acts as a
use Rattle.image_acts.specs.Acts.{Act, stack, bounded, selector, ask}
use Rattle.image_acts.specs.Core.{Core, Own, with_values}
use Rattle.image_acts.specs.Owning.{own_in}
use Rattle.image_acts.specs.Frames.{joined}
use Rattle.image_acts.specs.Places.{Place, place_in, place_size, cells_of, digits, numbers_of_form, triplets, subscripts_in, place_within, no_place, place_numbers, dims_numbers}
use Rattle.image_acts.specs.Teams.{members, index_of, is_established, member_at}
use Rattle.image_acts.specs.Taking.{Acted, giving, given, found_in, unless, taken, put_down, seeing}
use Rattle.image_acts.specs.Operate.Asking.{cell_span, has_cell}
use Rattle.image_acts.specs.Meaning.{settled, effect_of}
use Rattle.stack_laws.proofs.Standing.{taken_of}
use Rattle.told_walks.specs.Asked.{own_cells}
use Rattle.stack_laws.proofs.Places.{element_inside}
use Rattle.cell_walks.specs.Fitting.{Sizes, IsSound, HasCell, EffectFits}
use Rattle.cell_walks.proofs.Images.{word_below, small_in, team_images, member_image, index_in_team}

-- ---- the asks
pub cell_fits : (coarrays : List Declared) (i : ℕ) (test : Content → Bool) (k s : ℕ) → s < most_cells → holds test (slice_get coarrays k) ≡ true → is_cell_of (made_memory coarrays i) test (cell_span k (pos s)) ≡ true
cell_fits coarrays i test k s h t = and_from (nat_lt (word (pos s)) 65536) (holds test (slice_get coarrays k)) (lt-ltb (word (pos s)) 65536 (word_below s most_cells h)) t

-- ---- coarrays that are allocated here
size_in : (os : List (Option Own)) (k : ℕ) (o : Own) → joined (slice_get os k) ≡ Some o → joined (slice_get (map own_cells os) k) ≡ Some (size_of o.bounds)
size_in [] k o e = absurd (cc)
size_in (x ∷ os) zero o e = ap own_cells e
size_in (x ∷ os) (suc k) o e = size_in os k o e

-- what the image was told of it is its size
pub told_size : (n me : ℕ) (z : Sizes) (c : Core) (k : ℕ) (o : Own) → IsSound n me z c → own_in c k ≡ Some o → joined (slice_get z k) ≡ Some (size_of o.bounds)
told_size n me z c k o i e = subst (λ y. joined (slice_get y k) ≡ Some (size_of o.bounds)) i.sizes (size_in c.coarrays k o e)

module _ (n me : ℕ) (coarrays : List Declared) (readable : ℕ → Bool) where
  -- an ask that is made where the cell is there
  pub asked_there : (x : a.AskAct) (k s : ℕ) (q : Ask) (f : Reply → Core) (After : Sizes → Core → Type 0) (y : Sizes) (c : Core) → IsSound n me y c → (HasCell y (cell_span k (pos s)) → EffectFits n me coarrays readable (language.asking q f) After y)
      → EffectFits n me coarrays readable (settled (ask x) (unless not_allocated (has_cell (own_in c k) (word (pos s))) (language.asking q f))) After y
  asked_there x k s q f After y c i more = by_own (own_in c k) refl
    where
      by_size : (w : Own) → own_in c k ≡ Some w → (b : Bool) → nat_lt (word (pos s)) (size_of w.bounds) ≡ b → EffectFits n me coarrays readable (settled (ask x) (unless not_allocated b (language.asking q f))) After y
      by_size w e true t = more (size_of w.bounds, told_size n me y c k w i e, ltb-true (word (pos s)) (size_of w.bounds) t)
      by_size w e false t = tt

      by_own : (o : Option Own) → own_in c k ≡ o → EffectFits n me coarrays readable (settled (ask x) (unless not_allocated (has_cell o (word (pos s))) (language.asking q f))) After y
      by_own None e = tt
      by_own (Some w) e = by_size w e (nat_lt (word (pos s)) (size_of w.bounds)) refl

  abbrev Comes : Sizes → Acted → (Sizes → Core → Type 0) → Type 0
  Comes z e After = EffectFits n me coarrays readable e After z

  -- ---- the place of one cell
  abbrev co_placing : Option Own → List ℕ → List ℤ → Core → Acted
  co_placing None ds vs c = language.goes_to (with_values c (put_down (place_numbers (no_place (triplets ds))) c.values))
  co_placing (Some o) ds vs c = found_in (place_within o.bounds (subscripts_in ds vs)) (λ p. language.goes_to (with_values c (put_down (place_numbers p) c.values)))

  point_numbers : (p : Place) (k : ℕ) → p.dims ≡ [] → p.start ≡ pos k → place_numbers p ≡ pos k ∷ []
  point_numbers p k d s = ap₂ (λ x y. x ∷ dims_numbers y) s d

  pub pointed : (k form : ℕ) (z : Sizes) (c : Core) (xs vs : List ℤ) → length xs ≡ numbers_of_form (digits form) → triplets (digits form) ≡ 0 → IsSound n me z c → (After : Sizes → Core → Type 0)
      → ((s : ℕ) → s < most_cells → After z (with_values c (pos s ∷ vs))) → Comes z (effect_of (bounded (a.co_section k form)) (with_values c (xs ++ vs))) After
  pointed k form z c xs vs h t i After more =
      subst (λ o. Comes z (settled x (given o (λ p. co_placing (own_in c k) ds p.0 (with_values c p.1)))) After) (sym (taken_of (numbers_of_form ds) xs vs h)) (by_own (own_in c k) refl)
    where
      x : Act
      x = bounded (a.co_section k form)

      ds : List ℕ
      ds = digits form

      ys : List ℤ
      ys = put_down xs []

      by_found : (o : Own) → own_in c k ≡ Some o → (f : Found Place) → place_within o.bounds (subscripts_in ds ys) ≡ f
          → Comes z (settled x (found_in f (λ p. language.goes_to (with_values c (put_down (place_numbers p) vs))))) After
      by_found o e (found p) q =
          let r = element_inside o.bounds ds ys p q t in
          subst (λ ns. After z (with_values c (put_down ns vs))) (sym (point_numbers p r.1 r.0 r.2))
          (more r.1 (let l = r.3 in let m = small_in c.coarrays k o i.coarrays e in omega arith))
      by_found o e (at_fault j) q = tt

      by_own : (o : Option Own) → own_in c k ≡ o → Comes z (settled x (co_placing o ds ys (with_values c vs))) After
      by_own None e =
          subst (λ m. After z (with_values c (put_down (place_numbers (no_place m)) vs))) (sym t) (more 0 (omega arith))
      by_own (Some o) e = by_found o e (place_within o.bounds (subscripts_in ds ys)) refl

  -- ---- the owner
  pub own_imaged : (z : Sizes) (c : Core) (s : ℤ) (us : List ℤ) (After : Sizes → Core → Type 0) → After z (with_values c (pos c.me ∷ s ∷ us)) → Comes z (effect_of (selector (a.own_image 0)) (with_values c (s ∷ us))) After
  own_imaged z c s us After h = h

  abbrev selected : Core → ℕ → Own → Place → ℕ → Acted
  selected c t o p i =
      unless cobounds_fault (not (i == 0) || (cells_of p == 0)) (unless not_established (is_established c o.team t) (unless cells_fault (nat_le (cells_of p) most_access_cells) (giving (pos (member_at (members c t) i)) c)))

  abbrev owner_in : Core → ℕ → Option Own → List ℤ → Place → Acted
  owner_in c t None ss p = language.faults not_established
  owner_in c t (Some o) ss p = selected c t o p (index_of o ss (length (members c t)))

  pub imaged : (k corank : ℕ) (z : Sizes) (c : Core) (t s : ℤ) (ys us : List ℤ) → length ys ≡ corank → IsSound n me z c → (After : Sizes → Core → Type 0) → ((j : ℕ) → IsOneOf n j → After z (with_values c (pos j ∷ s ∷ us)))
      → Comes z (effect_of (selector (a.owner k 0 corank)) (with_values c (t ∷ (ys ++ (s ∷ us))))) After
  imaged k corank z c t s ys us h i After more =
      subst (λ o. Comes z (settled x (given o (λ p. seeing 0 (place_size 0) (with_values c p.1) (λ ns. owner_in (with_values c p.1) (natural t) (own_in c k) p.0 (place_in ns))))) After)
      (sym (taken_of corank ys (s ∷ us) h)) (by_own (own_in c k))
    where
      x : Act
      x = selector (a.owner k 0 corank)

      e : Core
      e = with_values c (s ∷ us)

      by_index : (o : Own) (j : ℕ) → j ≤ length (members c (natural t)) → (b d : Bool) → (j == 0) ≡ b
          → Comes z (settled x (unless cobounds_fault (not b || false) (unless not_established d (language.goes_to (with_values c (pos (member_at (members c (natural t)) j) ∷ s ∷ us)))))) After
      by_index o j l true d w = tt
      by_index o j l false true w = more (member_at (members c (natural t)) j) (member_image n (members c (natural t)) j (team_images n (natural t) c.known i.known) w l)
      by_index o j l false false w = tt

      by_own : (o : Option Own) → Comes z (settled x (owner_in e (natural t) o (put_down ys []) (record { start = s; dims = [] }))) After
      by_own None = tt
      by_own (Some o) =
          let j = index_of o (put_down ys []) (length (members c (natural t))) in
          by_index o j (index_in_team o (put_down ys []) (length (members c (natural t)))) (j == 0) (is_established e o.team (natural t)) refl

  -- ---- numbers that are moved
  drop_front : (qs zs : List ℤ) → drop (length qs) (qs ++ zs) ≡ zs
  drop_front [] zs = refl
  drop_front (q ∷ qs) zs = drop_front qs zs

  -- the two numbers beneath some are put down once more
  pub two_copied : (o : ℕ) (z : Sizes) (c : Core) (qs : List ℤ) (v w : ℤ) (us : List ℤ) → length qs ≡ o → (After : Sizes → Core → Type 0) → After z (with_values c (v ∷ w ∷ (qs ++ (v ∷ w ∷ us))))
      → Comes z (effect_of (stack (a.copy o 2)) (with_values c (qs ++ (v ∷ w ∷ us)))) After
  two_copied o z c qs v w us h After g =
      let e : drop o (qs ++ (v ∷ w ∷ us)) ≡ v ∷ w ∷ us = subst (λ k. drop k (qs ++ (v ∷ w ∷ us)) ≡ v ∷ w ∷ us) h (drop_front qs (v ∷ w ∷ us)) in
      subst (λ y. Comes z (settled (stack (a.copy o 2)) (given (taken 2 y []) (λ p. language.goes_to (with_values c (put_down p.0 (qs ++ (v ∷ w ∷ us))))))) After) (sym e) g
