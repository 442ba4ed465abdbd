-- An allocation or a deallocation of a coarray, which is noted directly behind its ask.
use Rattle.std.proofs.Common.{◌≡◌, ◌∙◌, ℕ, zero, suc, ◌+◌, ◌≤◌, Bool, true, false, List, [], ◌∷◌, ◌++◌, map, length, refl, ap, ap₂, sym, subst, append_assoc, arith}
use Rattle.std.specs.Prelude.{ℤ, ◌-◌, ◌&&◌, nat_le, take, drop, slice_set, Option, None, Some}
use Rattle.std.proofs.lemmas.Bool.{leb-true}
use Rattle.coarray_types.specs.Places.{size_of}
use Rattle.caf_events.specs.declared.ask.Ask.TheVariants as asking
use Rattle.walk_theory.specs.Language as language
use Rattle.object_rules.specs.Cells.{Declared}
use Rattle.image_acts.specs.Faults.{room}
use Rattle.image_acts.specs.Statuses.{most_cells}
use Rattle.image_acts.specs.Acts as a
use Rattle.image_acts.specs.Acts.{Act, allocation, ask}
use Rattle.image_acts.specs.Core.{Core, Own, with_values}
use Rattle.image_acts.specs.Frames.{pairs_in}
use Rattle.image_acts.specs.Owning.{own_in, with_own}
use Rattle.image_acts.specs.Teams.{current_team}
use Rattle.image_acts.specs.Taking.{Acted, given, unless, taken, put_down}
use Rattle.image_acts.specs.Operate.Allocating.{bounds_size, cobounds_size, noted, own_of}
use Rattle.image_acts.specs.Operate.Asking.{cells_word}
use Rattle.image_acts.specs.Meaning.{settled, effect_of}
use Rattle.stack_laws.specs.Exact.{Stand}
use Rattle.stack_laws.proofs.Standing.{stand_apart, parted, taken_of, put_down_on, put_down_long}
use Rattle.told_walks.specs.Asked.{own_cells}
use Rattle.cell_walks.specs.Fitting.{Sizes, IsSmall, IsSound, EffectFits}
use Rattle.cell_walks.proofs.Acts.{each_set}

drop_front : (qs zs : List ℤ) → drop (length qs) (qs ++ zs) ≡ zs
drop_front [] zs = refl
drop_front (q ∷ qs) zs = drop_front qs zs

drop_many : (m : ℕ) (qs zs : List ℤ) → length qs ≡ m → drop m (qs ++ zs) ≡ zs
drop_many m qs zs e = subst (λ k. drop k (qs ++ zs) ≡ zs) e (drop_front qs zs)

take_front : (qs zs : List ℤ) → take (length qs) (qs ++ zs) ≡ qs
take_front [] zs = refl
take_front (q ∷ qs) zs = ap (λ z. q ∷ z) (take_front qs zs)

take_many : (m : ℕ) (qs zs : List ℤ) → length qs ≡ m → take m (qs ++ zs) ≡ qs
take_many m qs zs e = subst (λ k. take k (qs ++ zs) ≡ qs) e (take_front qs zs)

long : (xs ys : List ℤ) → length (xs ++ ys) ≡ length xs + length ys
long [] ys = omega arith
long (x ∷ xs) ys = (let h = long xs ys in omega arith)

-- the first of them, over what lies beneath
front_apart : (j m : ℕ) (vs xs : List ℤ) → length xs ≡ j + m → (ys : List ℤ) × (zs : List ℤ) × (length ys ≡ j) × (length zs ≡ m) × (xs ++ vs ≡ ys ++ (zs ++ vs))
front_apart j m vs xs e = by_parts (parted j m xs e)
  where
    by_parts : (ys : List ℤ) × (zs : List ℤ) × (length ys ≡ j) × (length zs ≡ m) × (xs ≡ ys ++ zs) → (ys : List ℤ) × (zs : List ℤ) × (length ys ≡ j) × (length zs ≡ m) × (xs ++ vs ≡ ys ++ (zs ++ vs))
    by_parts r = (r.0, r.1, r.2, r.3, ap (λ z. z ++ vs) r.4 ∙ append_assoc r.0 r.1 vs)

put_both : (ks bs : List ℤ) → put_down (ks ++ bs) [] ≡ put_down bs (put_down ks [])
put_both ks bs = more ks []
  where
    more : (xs ys : List ℤ) → put_down (xs ++ bs) ys ≡ put_down bs (put_down xs ys)
    more [] ys = refl
    more (x ∷ xs) ys = more xs (x ∷ ys)

-- ---- sizes
map_set : (os : List (Option Own)) (k : ℕ) (o : Option Own) → map own_cells (slice_set os k o) ≡ slice_set (map own_cells os) k (own_cells o)
map_set [] k o = refl
map_set (x ∷ os) zero o = refl
map_set (x ∷ os) (suc k) o = ap (λ z. own_cells x ∷ z) (map_set os k o)

few : (k : ℕ) → k ≤ most_cells → cells_word k ≡ k
few k h = omega arith

module _ (n me : ℕ) (coarrays : List Declared) (readable : ℕ → Bool) where
  abbrev Comes : Sizes → Acted → (Sizes → Core → Type 0) → Type 0
  Comes z e After = EffectFits n me coarrays readable e After z

  -- ---- an allocation
  made_sound : (z : Sizes) (c : Core) (k m : ℕ) (o : Own) → size_of o.bounds ≤ most_cells → IsSound n me z c → IsSound n me (slice_set z k (Some (cells_word (size_of o.bounds)))) (with_own k (Some o) m c)
  made_sound z c k m o small h = record {
    own = h.own;
    image = h.image;
    known = h.known;
    formed = h.formed;
    coarrays = each_set IsSmall c.coarrays k (Some o) h.coarrays small;
    sizes = map_set c.coarrays k (Some o) ∙ ap₂ (λ x y. slice_set x k (Some y)) h.sizes (sym (few (size_of o.bounds) small));
  }

  small_enough : (a' b : ℕ) → nat_le (a' + b) most_cells ≡ true → b ≤ most_cells
  small_enough a' b t = (let l = leb-true (a' + b) most_cells t in omega arith)

  noted_fits : (x : Act) (k rank corank : ℕ) (bs : List (ℤ × ℤ)) (os : List ℤ) (z : Sizes) (c : Core) → IsSound n me z c → (After : Sizes → Core → Type 0)
      → ((d : Core) → IsSound n me (slice_set z k (Some (cells_word (size_of bs)))) d → d.values ≡ c.values → After (slice_set z k (Some (cells_word (size_of bs)))) d)
      → Comes (slice_set z k (Some (cells_word (size_of bs)))) (settled x (noted k rank corank bs os c)) After
  noted_fits x k rank corank bs os z c h After more = by_tests (nat_le rank 3 && nat_le corank 3) (nat_le (c.coarray_cells + size_of bs) most_cells) refl
    where
      d : Core
      d = with_own k (Some (own_of bs os (current_team c))) (c.coarray_cells + size_of bs) c

      by_tests : (b t : Bool) → nat_le (c.coarray_cells + size_of bs) most_cells ≡ t
          → Comes (slice_set z k (Some (cells_word (size_of bs)))) (settled x (unless room b (unless room t (language.goes_to (with_own k (Some (own_of bs os (current_team c))) (c.coarray_cells + size_of bs) c))))) After
      by_tests true true e = more d (made_sound z c k (c.coarray_cells + size_of bs) (own_of bs os (current_team c)) (small_enough c.coarray_cells (size_of bs) e) h) refl
      by_tests true false e = tt
      by_tests false t e = tt

  abbrev Made : ℕ → ℕ → ℕ → ℕ → (Sizes → Core → Type 0) → Sizes → Core → Type 0
  Made k depth rank corank After z c =
      EffectFits n me coarrays readable (effect_of (ask (a.create k (depth + cobounds_size corank) rank)) c) (λ y d. EffectFits n me coarrays readable (effect_of (allocation (a.note_made k depth rank corank)) d) After y) z

  made_on : (k depth rank corank : ℕ) (z : Sizes) (c : Core) (as' ks bs us : List ℤ) → length as' ≡ depth → length ks ≡ cobounds_size corank → length bs ≡ bounds_size rank → IsSound n me z c → (After : Sizes → Core → Type 0)
      → ((y : Sizes) (d : Core) → IsSound n me y d → d.values ≡ as' ++ (ks ++ (bs ++ us)) → After y d) → Made k depth rank corank After z (with_values c (as' ++ (ks ++ (bs ++ us))))
  made_on k depth rank corank z c as' ks bs us la lk lb h After more =
      let vs = as' ++ (ks ++ (bs ++ us)) in
      let e = with_values c vs in
      let there : drop (depth + cobounds_size corank) vs ≡ bs ++ us =
      ap (drop (depth + cobounds_size corank)) (sym (append_assoc as' ks (bs ++ us))) ∙ drop_many (depth + cobounds_size corank) (as' ++ ks) (bs ++ us) (let l = long as' ks in omega arith) in
      let both : drop depth vs ≡ (ks ++ bs) ++ us = drop_many depth as' (ks ++ (bs ++ us)) la ∙ sym (append_assoc ks bs us) in
      let front : take (bounds_size rank) (put_down (ks ++ bs) []) ≡ put_down bs [] =
      ap (take (bounds_size rank)) (put_both ks bs ∙ put_down_on bs [] (put_down ks [])) ∙ take_many (bounds_size rank) (put_down bs []) (put_down ks []) (let l = put_down_long bs [] in omega arith) in
      let w = slice_set z k (Some (cells_word (size_of (pairs_in (put_down bs []))))) in
      let x = allocation (a.note_made k depth rank corank) in
      let note : Comes w (effect_of x e) After =
      subst (λ q. Comes w (settled x (given (taken (bounds_size rank + cobounds_size corank) q []) (λ p. noted k rank corank (pairs_in (take (bounds_size rank) p.0)) (drop (bounds_size rank) p.0) e))) After) (sym both)
      (subst (λ q. Comes w (settled x (given q (λ p. noted k rank corank (pairs_in (take (bounds_size rank) p.0)) (drop (bounds_size rank) p.0) e))) After)
      (sym (taken_of (bounds_size rank + cobounds_size corank) (ks ++ bs) us (let l = long ks bs in omega arith)))
      (subst (λ q. Comes w (settled x (noted k rank corank (pairs_in q) (drop (bounds_size rank) (put_down (ks ++ bs) [])) e)) After) (sym front)
      (noted_fits x k rank corank (pairs_in (put_down bs [])) (drop (bounds_size rank) (put_down (ks ++ bs) [])) z e h After (λ d i v. more w d i v)))) in
      subst (λ q. Comes z (settled (ask (a.create k (depth + cobounds_size corank) rank)) (given (taken (bounds_size rank) q []) (λ p. language.asking (asking.Create (record { 0 = c.me }) k (cells_word (size_of (pairs_in p.0)))) (λ r. e))))
      (λ y d. EffectFits n me coarrays readable (effect_of x d) After y)) (sym there)
      (subst (λ q. Comes z (settled (ask (a.create k (depth + cobounds_size corank) rank)) (given q (λ p. language.asking (asking.Create (record { 0 = c.me }) k (cells_word (size_of (pairs_in p.0)))) (λ r. e))))
      (λ y d. EffectFits n me coarrays readable (effect_of x d) After y)) (sym (taken_of (bounds_size rank) bs us lb)) (tt, λ r t. note))

  pub made_fits : (k depth rank corank : ℕ) (vs : List ℤ) (h : ℕ) → depth + (cobounds_size corank + bounds_size rank) ≤ h → (z : Sizes) (c : Core) → IsSound n me z c → Stand h vs c.values → (After : Sizes → Core → Type 0)
      → ((y : Sizes) (d : Core) → IsSound n me y d → Stand h vs d.values → After y d) → Made k depth rank corank After z c
  made_fits k depth rank corank vs h l z c i s After more = (let r = stand_apart h vs c.values s in whole r.0 r.1 r.2)
    where
      parts : (as' ks bs rest : List ℤ) → length as' ≡ depth → length ks ≡ cobounds_size corank → length bs ≡ bounds_size rank → c.values ≡ as' ++ (ks ++ (bs ++ (rest ++ vs))) → Made k depth rank corank After z c
      parts as' ks bs rest la lk lb v =
          subst (λ y. Made k depth rank corank After z (with_values c y)) (sym v)
          (made_on k depth rank corank z c as' ks bs (rest ++ vs) la lk lb i After (λ y d x w. more y d x (subst (Stand h vs) (v ∙ sym w) s)))

      third : (as' ks xs : List ℤ) → length as' ≡ depth → length ks ≡ cobounds_size corank → length xs ≡ (h - depth) - cobounds_size corank → c.values ≡ as' ++ (ks ++ (xs ++ vs)) → Made k depth rank corank After z c
      third as' ks xs la lk lx v =
          (let p = front_apart (bounds_size rank) (((h - depth) - cobounds_size corank) - bounds_size rank) vs xs (omega arith) in parts as' ks p.0 p.1 la lk p.2 (v ∙ ap (λ y. as' ++ (ks ++ y)) p.4))

      second : (as' xs : List ℤ) → length as' ≡ depth → length xs ≡ h - depth → c.values ≡ as' ++ (xs ++ vs) → Made k depth rank corank After z c
      second as' xs la lx v = (let p = front_apart (cobounds_size corank) ((h - depth) - cobounds_size corank) vs xs (omega arith) in third as' p.0 p.1 la p.2 p.3 (v ∙ ap (λ y. as' ++ y) p.4))

      whole : (xs : List ℤ) → length xs ≡ h → c.values ≡ xs ++ vs → Made k depth rank corank After z c
      whole xs lx v = (let p = front_apart depth (h - depth) vs xs (omega arith) in second p.0 p.1 p.2 p.3 (v ∙ p.4))

  -- ---- a deallocation
  abbrev own_freed : ℕ → Option Own → Core → Acted
  own_freed k None c = language.stuck
  own_freed k (Some o) c = language.goes_to (with_own k None (c.coarray_cells - size_of o.bounds) c)

  gone_sound : (z : Sizes) (c : Core) (k m : ℕ) → IsSound n me z c → IsSound n me (slice_set z k None) (with_own k None m c)
  gone_sound z c k m h = record {
    own = h.own;
    image = h.image;
    known = h.known;
    formed = h.formed;
    coarrays = each_set IsSmall c.coarrays k None h.coarrays tt;
    sizes = map_set c.coarrays k None ∙ ap (λ x. slice_set x k None) h.sizes;
  }

  pub freed_fits : (k : ℕ) (vs : List ℤ) (h : ℕ) (z : Sizes) (c : Core) → IsSound n me z c → Stand h vs c.values → (After : Sizes → Core → Type 0) → ((y : Sizes) (d : Core) → IsSound n me y d → Stand h vs d.values → After y d)
      → EffectFits n me coarrays readable (effect_of (ask (a.delete k)) c) (λ y d. EffectFits n me coarrays readable (effect_of (allocation (a.note_freed k)) d) After y) z
  freed_fits k vs h z c i s After more = (tt, λ r t. by_own (own_in c k))
    where
      by_own : (o : Option Own) → Comes (slice_set z k None) (settled (allocation (a.note_freed k)) (own_freed k o c)) After
      by_own None = tt
      by_own (Some o) = more (slice_set z k None) (with_own k None (c.coarray_cells - size_of o.bounds) c) (gone_sound z c k (c.coarray_cells - size_of o.bounds) i) s
