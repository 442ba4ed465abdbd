-- Parts that ask for no lock and for no event, and read what may be read alone, fit, and leave as many numbers as
-- their heights say.
use Rattle.std.proofs.Common.{◌≡◌, ◌∙◌, ℕ, zero, suc, ◌+◌, ◌≤◌, Bool, true, false, cond, List, [], ◌∷◌, ◌++◌, length, refl, ap, sym, subst, append_assoc, arith}
use Rattle.std.specs.Prelude.{ℤ, ◌-◌, ◌==◌, ◌||◌}
use Rattle.walk_theory.specs.Syntax.{Parts, end_parts, value, act, enter, either}
use Rattle.code_heights.specs.MadeHeights.{after, Balanced}
use Rattle.object_rules.specs.Cells.{Declared}
use Rattle.image_acts.specs.Acts as a
use Rattle.image_acts.specs.Acts.{Act, stack, bounded, allocation, selector, ask}
use Rattle.image_acts.specs.Core.{Core, with_values}
use Rattle.image_acts.specs.Places.{place_size, digits, numbers_of_form, triplets}
use Rattle.image_acts.specs.Operate.Allocating.{bounds_size, cobounds_size}
use Rattle.image_acts.specs.Meaning.{effect_of}
use Rattle.image_code.specs.Levels.{of_numbers, tested_of, taken_of, left_of}
use Rattle.stack_laws.specs.Exact.{Stand}
use Rattle.stack_laws.proofs.Standing.{stand_apart, stand_of, parted}
use Rattle.cell_walks.specs.Fitting.{Sizes, IsSound, EffectFits, PartsFit}
use Rattle.cell_walks.proofs.Parts.{effect_more, parts_more, test_fits}
use Rattle.cell_walks.proofs.Acts.{IsFree, act_fits}
use Rattle.cell_walks.proofs.Allocations.{made_fits, freed_fits}
use Rattle.cell_walks.proofs.References.{reading, lifting, Passes, own_reference, reference}

-- the heights of the numbers
abbrev pub Level : ℕ → Parts Act → Type 0
Level h p = Balanced (tested_of of_numbers) (taken_of of_numbers) (left_of of_numbers) h p

abbrev pub rise : ℕ → Parts Act → ℕ
rise h p = after (tested_of of_numbers) (taken_of of_numbers) (left_of of_numbers) h p

-- parts that leave m numbers, whatever stands beneath
abbrev pub Rises : ℕ → Parts Act → Type 0
Rises m p = (h : ℕ) → Level h p × (rise h p ≡ h + m)

-- Parts that ask for no lock and for no event; an allocation is noted directly behind its ask; and a coarray that is
-- read may be read: its section, its owner and the read stand together.
pub data IsQuiet (readable : ℕ → Bool) : Parts Act → Type 0 where
  ends : IsQuiet readable end_parts
  values : (p q : Parts Act) → IsQuiet readable p → IsQuiet readable q → IsQuiet readable (value p q)
  does : (x : Act) (q : Parts Act) → IsFree x → IsQuiet readable q → IsQuiet readable (act x q)
  makes : (k depth rank corank : ℕ) (q : Parts Act) → IsQuiet readable q → IsQuiet readable (act (ask (a.create k (depth + cobounds_size corank) rank)) (act (allocation (a.note_made k depth rank corank)) q))
  frees : (k : ℕ) (q : Parts Act) → IsQuiet readable q → IsQuiet readable (act (ask (a.delete k)) (act (allocation (a.note_freed k)) q))
  enters : (k : ℕ) (q : Parts Act) → IsQuiet readable q → IsQuiet readable (enter k q)
  chooses : (p q r : Parts Act) → IsQuiet readable p → IsQuiet readable q → IsQuiet readable r → IsQuiet readable (either p q r)
  reads_own : (k form rank : ℕ) (need q : Parts Act) → readable k ≡ true → triplets (digits form) ≡ rank → IsQuiet readable need → Rises 0 need → IsQuiet readable q
      → IsQuiet readable (value (act (bounded (a.co_section k form)) end_parts) (value (act (selector (a.own_image rank)) end_parts) (value need (value (reading k rank) q))))
  reads_of : (k form rank corank stat : ℕ) (cs team place need q : Parts Act) → readable k ≡ true → triplets (digits form) ≡ rank → IsQuiet readable cs → Rises corank cs → IsQuiet readable team → Rises 1 team
      → IsQuiet readable place → Rises stat place → IsQuiet readable need → Rises 0 need → IsQuiet readable q
      → IsQuiet readable (value (act (bounded (a.co_section k form)) end_parts) (value (value cs (value team (value place (value (lifting stat (place_size rank + (corank + 1))) (act (selector (a.owner k rank corank)) end_parts))))) (value need (value (reading k rank) q))))

long : (xs ys : List ℤ) → length (xs ++ ys) ≡ length xs + length ys
long [] ys = omega arith
long (x ∷ xs) ys = (let h = long xs ys in omega arith)

-- numbers on numbers that stand on others
restand : (l k m : ℕ) (zs vs ws : List ℤ) → length zs ≡ k → k + l ≡ m → Stand l (zs ++ vs) ws → Stand m vs ws
restand l k m zs vs ws e f s =
    let r = stand_apart l (zs ++ vs) ws s in
    let t : length (r.0 ++ zs) ≡ m = long r.0 zs ∙ (let a = r.1 in omega arith) in
    subst (Stand m vs) (sym (r.2 ∙ sym (append_assoc r.0 zs vs))) (stand_of m (r.0 ++ zs) vs t)

below : (h t : ℕ) → t ≤ h → h ≡ t + (h - t)
below h t l = omega arith

-- a read leaves its status in the place of the owner and the place
reading_rise : (k rank h : ℕ) → place_size rank + 1 ≤ h → rise h (reading k rank) ≡ (h - (place_size rank + 1)) + 1
reading_rise k zero h l = refl
reading_rise k (suc r) h l = omega arith

lifting_rise : (depth m h : ℕ) → depth + m ≤ h → rise h (lifting depth m) ≡ h
lifting_rise depth m h l = by_none ((depth == 0) || (m == 0))
  where
    by_none : (b : Bool) → rise h (cond b end_parts (act (stack (a.bring depth m)) end_parts)) ≡ h
    by_none true = refl
    by_none false = omega arith

-- the section, its owner and the read
behind_own : (h t s h1 h2 h3 : ℕ) → t ≤ h → h1 ≡ (h - t) + s → h2 ≡ (h1 - s) + (s + 1) → h3 ≡ h2 + 0 → h3 ≡ (h - t) + (s + 1)
behind_own h t s h1 h2 h3 l u v w = omega arith

behind_chosen : (h t s j m h1 h2 h3 h4 h5 h6 h7 : ℕ) → t ≤ h → h1 ≡ (h - t) + s → h2 ≡ h1 + j → h3 ≡ h2 + 1 → h4 ≡ h3 + m → h5 ≡ h4 → h6 ≡ (h5 - (j + s + 1)) + (s + 1) → h7 ≡ h6 + 0 → h7 ≡ (m + (h - t)) + (s + 1)
behind_chosen h t s j m h1 h2 h3 h4 h5 h6 h7 l u v w x y z q = omega arith

enough_lifted : (h t s j m h1 h2 h3 h4 : ℕ) → h1 ≡ (h - t) + s → h2 ≡ h1 + j → h3 ≡ h2 + 1 → h4 ≡ h3 + m → m + (s + (j + 1)) ≤ h4
enough_lifted h t s j m h1 h2 h3 h4 u v w x = omega arith

enough_read : (x b s : ℕ) → x ≡ b + s → s ≤ x
enough_read x b s e = omega arith

behind_read : (x b s : ℕ) → x ≡ b + s → (x - s) + 1 ≡ suc b
behind_read x b s e = omega arith

section_rise : (h t u r s : ℕ) → t ≡ u → r ≡ s → (h - u) + place_size r ≡ (h - t) + place_size s
section_rise h t u r s e f = omega arith

own_rise : (k form rank h t : ℕ) (need : Parts Act) → Rises 0 need → triplets (digits form) ≡ rank → t ≡ numbers_of_form (digits form) → t ≤ h
    → rise h (value (act (bounded (a.co_section k form)) end_parts) (value (act (selector (a.own_image rank)) end_parts) (value need (reading k rank)))) ≡ suc (h - t)
own_rise k form rank h t need needs e f l =
    let h1 : ℕ = (h - numbers_of_form (digits form)) + place_size (triplets (digits form)) in
    let h2 : ℕ = (h1 - place_size rank) + (place_size rank + 1) in
    let w : rise h2 need ≡ (h - t) + (place_size rank + 1) = behind_own h t (place_size rank) h1 h2 (rise h2 need) l (section_rise h t (numbers_of_form (digits form)) (triplets (digits form)) rank f e) refl (needs h2).1 in
    reading_rise k rank (rise h2 need) (enough_read (rise h2 need) (h - t) (place_size rank + 1) w) ∙ behind_read (rise h2 need) (h - t) (place_size rank + 1) w

chosen_rise : (k form rank corank stat h t : ℕ) (cs team place need : Parts Act) → Rises corank cs → Rises 1 team → Rises stat place → Rises 0 need → triplets (digits form) ≡ rank → t ≡ numbers_of_form (digits form) → t ≤ h
    → rise h (value (act (bounded (a.co_section k form)) end_parts) (value (value cs (value team (value place (value (lifting stat (place_size rank + (corank + 1))) (act (selector (a.owner k rank corank)) end_parts))))) (value need (reading k rank)))) ≡ suc (stat + (h - t))
chosen_rise k form rank corank stat h t cs team place need rise_cs rise_team rise_place needs e f l =
    let m : ℕ = place_size rank + (corank + 1) in
    let h1 : ℕ = (h - numbers_of_form (digits form)) + place_size (triplets (digits form)) in
    let h2 : ℕ = rise h1 cs in
    let h3 : ℕ = rise h2 team in
    let h4 : ℕ = rise h3 place in
    let h5 : ℕ = rise h4 (lifting stat m) in
    let h6 : ℕ = (h5 - (corank + place_size rank + 1)) + (place_size rank + 1) in
    let u = section_rise h t (numbers_of_form (digits form)) (triplets (digits form)) rank f e in
    let v : h5 ≡ h4 = lifting_rise stat m h4 (enough_lifted h t (place_size rank) corank stat h1 h2 h3 h4 u (rise_cs h1).1 (rise_team h2).1 (rise_place h3).1) in
    let w : rise h6 need ≡ (stat + (h - t)) + (place_size rank + 1) = behind_chosen h t (place_size rank) corank stat h1 h2 h3 h4 h5 h6 (rise h6 need) l u (rise_cs h1).1 (rise_team h2).1 (rise_place h3).1 v refl (needs h6).1 in
    reading_rise k rank (rise h6 need) (enough_read (rise h6 need) (stat + (h - t)) (place_size rank + 1) w) ∙ behind_read (rise h6 need) (stat + (h - t)) (place_size rank + 1) w

at_top : (h : ℕ) → 1 ≤ h → h ≡ suc (h - 1)
at_top h l = omega arith

module _ (n me : ℕ) (coarrays : List Declared) (readable : ℕ → Bool) where
  abbrev Well : Sizes → Core → Type 0
  Well z c = IsSound n me z c

  abbrev Fit : Parts Act → (Sizes → Core → Type 0) → Sizes → Core → Type 0
  Fit p After z c = PartsFit n me coarrays readable p After z c

  -- an act on as many numbers as stand there
  step_fits : (x : Act) → IsFree x → (h : ℕ) → taken_of of_numbers x ≤ h → (vs : List ℤ) (z : Sizes) (c : Core) → Well z c → Stand h vs c.values
      → EffectFits n me coarrays readable (effect_of x c) (λ y d. Well y d × Stand ((h - taken_of of_numbers x) + left_of of_numbers x) vs d.values) z
  step_fits x f h l vs z c w s =
      let t = taken_of of_numbers x in
      let m = (h - t) + left_of of_numbers x in
      let r = stand_apart h vs c.values s in
      let p = parted t (h - t) r.0 (r.1 ∙ below h t l) in
      let e : c.values ≡ p.0 ++ (p.1 ++ vs) = r.2 ∙ (ap (λ u. u ++ vs) p.4 ∙ append_assoc p.0 p.1 vs) in
      let g = act_fits n me coarrays readable x f z c p.0 (p.1 ++ vs) p.2 w in
      subst (λ u. EffectFits n me coarrays readable (effect_of x (with_values c u)) (λ y d. Well y d × Stand m vs d.values) z) (sym e)
      (effect_more n me coarrays readable (λ y d. Well y d × Stand (left_of of_numbers x) (p.1 ++ vs) d.values) (λ y d. Well y d × Stand m vs d.values)
      (λ y d u. (u.0, restand (left_of of_numbers x) (h - t) m p.1 vs d.values p.3 refl u.1)) z (effect_of x (with_values c (p.0 ++ (p.1 ++ vs)))) g)

  -- parts that fit on what stands there pass
  passing : (m : ℕ) (p : Parts Act) → Rises m p → ((vs : List ℤ) (z : Sizes) (c : Core) → Well z c → Stand 0 vs c.values → Fit p (λ y d. Well y d × Stand (rise 0 p) vs d.values) z c) → Passes n me coarrays readable m p
  passing m p r fits vs After y c i v more =
      let e : rise 0 p ≡ m = (r 0).1 ∙ (let z : 0 + m ≡ m = omega arith in z) in
      parts_more n me coarrays readable p (λ u d. Well u d × Stand (rise 0 p) vs d.values) After
      (λ u d w. (let x = stand_apart m vs d.values (subst (λ q. Stand q vs d.values) e w.1) in more u d x.0 w.0 x.1 x.2)) y c (fits vs y c i v)

  -- a read on as many numbers as stand there, of which its section takes t
  own_fits : (k form rank : ℕ) → readable k ≡ true → triplets (digits form) ≡ rank → (need q : Parts Act) → Passes n me coarrays readable 0 need → Rises 0 need → (h : ℕ) → numbers_of_form (digits form) ≤ h
      → (vs : List ℤ) (z : Sizes) (c : Core) → Well z c → Stand h vs c.values → (After : Sizes → Core → Type 0)
      → ((y : Sizes) (d : Core) → Well y d → Stand (rise h (value (act (bounded (a.co_section k form)) end_parts) (value (act (selector (a.own_image rank)) end_parts) (value need (reading k rank))))) vs d.values → Fit q After y d)
      → Fit (value (act (bounded (a.co_section k form)) end_parts) (value (act (selector (a.own_image rank)) end_parts) (value need (value (reading k rank) q)))) After z c
  own_fits k form rank holds e need q pass needs h l vs z c w s After more =
      let t = numbers_of_form (digits form) in
      let r = stand_apart h vs c.values s in
      let p = parted t (h - t) r.0 (r.1 ∙ below h t l) in
      let v : c.values ≡ p.0 ++ (p.1 ++ vs) = r.2 ∙ (ap (λ u. u ++ vs) p.4 ∙ append_assoc p.0 p.1 vs) in
      own_reference n me coarrays readable k form rank holds e need pass z c p.0 (p.1 ++ vs) p.2 w v (Fit q After)
      (λ y d st i x. more y d i
      (subst (λ m. Stand m vs d.values) (sym (own_rise k form rank h t need needs e refl l)) (subst (Stand (suc (h - t)) vs) (sym x) (stand_of (suc (h - t)) (st ∷ p.1) vs (ap suc p.3)))))

  chosen_fits : (k form rank corank stat : ℕ) → readable k ≡ true → triplets (digits form) ≡ rank → (cs team place need q : Parts Act) → Passes n me coarrays readable corank cs → Rises corank cs → Passes n me coarrays readable 1 team → Rises 1 team
      → Passes n me coarrays readable stat place → Rises stat place → Passes n me coarrays readable 0 need → Rises 0 need → (h : ℕ) → numbers_of_form (digits form) ≤ h
      → (vs : List ℤ) (z : Sizes) (c : Core) → Well z c → Stand h vs c.values → (After : Sizes → Core → Type 0)
      → ((y : Sizes) (d : Core) → Well y d → Stand (rise h (value (act (bounded (a.co_section k form)) end_parts) (value (value cs (value team (value place (value (lifting stat (place_size rank + (corank + 1))) (act (selector (a.owner k rank corank)) end_parts))))) (value need (reading k rank))))) vs d.values → Fit q After y d)
      → Fit (value (act (bounded (a.co_section k form)) end_parts) (value (value cs (value team (value place (value (lifting stat (place_size rank + (corank + 1))) (act (selector (a.owner k rank corank)) end_parts))))) (value need (value (reading k rank) q)))) After z c
  chosen_fits k form rank corank stat holds e cs team place need q pass_cs rise_cs pass_team rise_team pass_place rise_place pass needs h l vs z c w s After more =
      let t = numbers_of_form (digits form) in
      let r = stand_apart h vs c.values s in
      let p = parted t (h - t) r.0 (r.1 ∙ below h t l) in
      let v : c.values ≡ p.0 ++ (p.1 ++ vs) = r.2 ∙ (ap (λ u. u ++ vs) p.4 ∙ append_assoc p.0 p.1 vs) in
      reference n me coarrays readable k form rank corank stat holds e cs team place need pass_cs pass_team pass_place pass z c p.0 (p.1 ++ vs) p.2 w v (Fit q After)
      (λ y d st ps i lp x. more y d i
      (subst (λ m. Stand m vs d.values) (sym (chosen_rise k form rank corank stat h t cs team place need rise_cs rise_team rise_place needs e refl l))
      (subst (Stand (suc (stat + (h - t))) vs) (sym (x ∙ ap (λ u. st ∷ u) (sym (append_assoc ps p.1 vs)))) (stand_of (suc (stat + (h - t))) (st ∷ (ps ++ p.1)) vs (let g = long ps p.1 in let f = p.3 in omega arith)))))

  pub quiet_fits : (p : Parts Act) → IsQuiet readable p → (h : ℕ) → Level h p → (vs : List ℤ) (z : Sizes) (c : Core) → Well z c → Stand h vs c.values → Fit p (λ y d. Well y d × Stand (rise h p) vs d.values) z c
  quiet_fits _ ends h b vs z c w s = (w, s)
  quiet_fits _ (values p r q q') h b vs z c w s =
      parts_more n me coarrays readable p (λ y d. Well y d × Stand (rise h p) vs d.values) (Fit r (λ y d. Well y d × Stand (rise (rise h p) r) vs d.values))
      (λ y d u. quiet_fits r q' (rise h p) b.1 vs y d u.0 u.1) z c (quiet_fits p q h b.0 vs z c w s)
  quiet_fits _ (does x r f q) h b vs z c w s =
      let m = (h - taken_of of_numbers x) + left_of of_numbers x in
      effect_more n me coarrays readable (λ y d. Well y d × Stand m vs d.values) (Fit r (λ y d. Well y d × Stand (rise m r) vs d.values)) (λ y d u. quiet_fits r q m b.1 vs y d u.0 u.1) z (effect_of x c) (step_fits x f h b.0 vs z c w s)
  quiet_fits _ (makes k depth rank corank r q) h b vs z c w s =
      let t = depth + cobounds_size corank + bounds_size rank in
      let m = (h - t) + t in
      let t' = depth + bounds_size rank + cobounds_size corank in
      let m' = (m - t') + t' in
      let first = b.0 in
      let second = b.1.0 in
      let e : h ≡ m' = omega arith in
      made_fits n me coarrays readable k depth rank corank vs h (omega arith) z c w s (Fit r (λ y d. Well y d × Stand (rise m' r) vs d.values))
      (λ y d i v. quiet_fits r q m' b.1.1 vs y d i (subst (λ u. Stand u vs d.values) e v))
  quiet_fits _ (frees k r q) h b vs z c w s =
      let m = (h - 0) + 0 in
      let m' = (m - 0) + 0 in
      let e : h ≡ m' = omega arith in
      freed_fits n me coarrays readable k vs h z c w s (Fit r (λ y d. Well y d × Stand (rise m' r) vs d.values))
      (λ y d i v. quiet_fits r q m' b.1.1 vs y d i (subst (λ u. Stand u vs d.values) e v))
  quiet_fits _ (enters k r q) h b vs z c w s = (w, λ y d i e. quiet_fits r q h b vs y d i (subst (Stand h vs) (sym e) s))
  quiet_fits _ (chooses p r u q q' q'') h b vs z c w s =
      let k = h - 1 in
      let j = rise k p in
      let After : Sizes → Core → Type 0 = λ y d. Well y d × Stand (rise j u) vs d.values in
      test_fits n me coarrays readable k vs c (Fit p (Fit u After) z) (Fit r (Fit u After) z) (subst (λ x. Stand x vs c.values) (at_top h b.0) s)
      (λ ws e. parts_more n me coarrays readable p (λ y d. Well y d × Stand j vs d.values) (Fit u After) (λ y d x. quiet_fits u q'' j b.4 vs y d x.0 x.1) z (with_values c ws) (quiet_fits p q k b.1 vs z (with_values c ws) w e))
      (λ ws e. parts_more n me coarrays readable r (λ y d. Well y d × Stand (rise k r) vs d.values) (Fit u After) (λ y d x. quiet_fits u q'' j b.4 vs y d x.0 (subst (λ x'. Stand x' vs d.values) b.3 x.1)) z (with_values c ws)
      (quiet_fits r q' k b.2 vs z (with_values c ws) w e))
  quiet_fits _ (reads_own k form rank need r holds e q needs q') h b vs z c w s =
      own_fits k form rank holds e need r (passing 0 need needs (λ us y d i u. quiet_fits need q 0 (needs 0).0 us y d i u)) needs h b.0.0 vs z c w s
      (λ y d. Well y d × Stand (rise (rise h (value (act (bounded (a.co_section k form)) end_parts) (value (act (selector (a.own_image rank)) end_parts) (value need (reading k rank))))) r) vs d.values)
      (λ y d i u. quiet_fits r q' (rise h (value (act (bounded (a.co_section k form)) end_parts) (value (act (selector (a.own_image rank)) end_parts) (value need (reading k rank))))) b.1.1.1.1 vs y d i u)
  quiet_fits _ (reads_of k form rank corank stat cs team place need r holds e q_cs rise_cs q_team rise_team q_place rise_place q needs q') h b vs z c w s =
      let before : Parts Act = value (act (bounded (a.co_section k form)) end_parts) (value (value cs (value team (value place (value (lifting stat (place_size rank + (corank + 1))) (act (selector (a.owner k rank corank)) end_parts))))) (value need (reading k rank))) in
      chosen_fits k form rank corank stat holds e cs team place need r
      (passing corank cs rise_cs (λ us y d i u. quiet_fits cs q_cs 0 (rise_cs 0).0 us y d i u)) rise_cs (passing 1 team rise_team (λ us y d i u. quiet_fits team q_team 0 (rise_team 0).0 us y d i u)) rise_team
      (passing stat place rise_place (λ us y d i u. quiet_fits place q_place 0 (rise_place 0).0 us y d i u)) rise_place (passing 0 need needs (λ us y d i u. quiet_fits need q 0 (needs 0).0 us y d i u)) needs h b.0.0 vs z c w s
      (λ y d. Well y d × Stand (rise (rise h before) r) vs d.values)
      (λ y d i u. quiet_fits r q' (rise h before) b.1.1.1.1 vs y d i u)
