-- Statements on one cell of a coarray: what the cell is, and its ask.
use Rattle.std.proofs.Common.{◌≡◌, ◌∙◌, ℕ, suc, ◌+◌, ◌<◌, Bool, true, false, cond, List, [], ◌∷◌, ◌++◌, length, refl, ap, sym, subst, append_assoc, arith}
use Rattle.std.specs.Prelude.{ℤ, pos}
use Rattle.walk_theory.specs.Syntax.{Parts}
use Rattle.code_heights.specs.MadeHeights.{Leaves}
use Rattle.checked_tree.specs.declared.data.Object.TheVariants as objects
use Rattle.checked_tree.specs.Expressions as t
use Rattle.object_rules.specs.Cells.{Declared}
use Rattle.core_runs.specs.Beginnings.{IsOneOf}
use Rattle.image_acts.specs.Statuses.{most_cells}
use Rattle.image_acts.specs.Places.{place_size}
use Rattle.image_acts.specs.Acts as a
use Rattle.image_acts.specs.Acts.{Act, stack, bounded, selector, ask}
use Rattle.image_acts.specs.Core.{Core, with_values}
use Rattle.image_acts.specs.Meaning.{effect_of}
use Rattle.image_code.specs.Sizes.{Size, numbers}
use Rattle.image_code.specs.Levels.{of_numbers, tested_of, taken_of, left_of}
use Rattle.tree_meaning.specs.Environment.{Environment}
use Rattle.tree_meaning.specs.Sequences.{◌▸◌, doing, copying, bringing, takes, released}
use Rattle.tree_meaning.specs.Expressions as view
use Rattle.tree_meaning.specs.ImageControl as control
use Rattle.made_code.specs.Ranks as ranks
use Rattle.made_code.proofs.Turns.{Turns, Runs}
use Rattle.made_code.proofs.Forms.{none, one_act}
use Rattle.made_code.proofs.Digits.{section_numbers, section_rank}
use Rattle.made_code.proofs.Expressions.{expressions_turns, subscripts_turns, place_turns}
use Rattle.stack_laws.specs.Exact.{Stand}
use Rattle.stack_laws.proofs.Standing.{stand_apart, stand_of}
use Rattle.cell_walks.specs.Fitting.{Sizes, IsSound, EffectFits, PartsFit, Leave}
use Rattle.cell_walks.proofs.Parts.{parts_more}
use Rattle.cell_walks.proofs.References.{lifted}
use Rattle.cell_walks.proofs.Levels.{rise, quiet_fits}
use Rattle.cell_walks.proofs.Quieting.{Safe, one}
use Rattle.cell_statements.specs.Reading.{SubscriptsRead, PlaceReads}
use Rattle.cell_statements.proofs.Points.{pointed, own_imaged, imaged, two_copied}
use Rattle.cell_statements.proofs.Quiet.{selected_turns, quiet_expressions, quiet_subscripts, quiet_place, quiet_selected}

pub no_numbers : (xs : List ℤ) → length xs ≡ 0 → xs ≡ []
no_numbers [] e = refl
no_numbers (x ∷ xs) e = absurd (let f : suc (length xs) ≡ 0 = e in omega arith)

pub one_number : (xs : List ℤ) → length xs ≡ 1 → (v : ℤ) × (xs ≡ v ∷ [])
one_number [] e = absurd (let f : 0 ≡ 1 = e in omega arith)
one_number (x ∷ []) e = (x, refl)
one_number (x ∷ y ∷ xs) e = absurd (let f : suc (suc (length xs)) ≡ 1 = e in omega arith)

long : (xs ys : List ℤ) → length (xs ++ ys) ≡ length xs + length ys
long [] ys = omega arith
long (x ∷ xs) ys = (let h = long xs ys in omega arith)

module _ (n me : ℕ) (coarrays : List Declared) (readable : ℕ → Bool) where
  abbrev pub Sound : Sizes → Core → Type 0
  Sound z c = IsSound n me z c

  abbrev pub Fit : Parts Act → (Sizes → Core → Type 0) → Sizes → Core → Type 0
  Fit p After z c = PartsFit n me coarrays readable p After z c

  abbrev pub Done : List ℤ → Sizes → Core → Type 0
  Done vs y d = Sound y d × Stand 0 vs d.values

  -- ---- parts of a size over numbers that stand there
  pub passed : {z : Size} {p : Parts Act} → Turns z p → Safe readable p → (vs : List ℤ) (After : Sizes → Core → Type 0) (y : Sizes) (c : Core) → Sound y c → Stand z.takes.numbers vs c.values
      → ((u : Sizes) (d : Core) (xs : List ℤ) → Sound u d → length xs ≡ z.leaves.numbers → d.values ≡ xs ++ vs → After u d) → Fit p After y c
  passed {z} {p} t q vs After y c i s more =
      let from_none : 0 + z.takes.numbers ≡ z.takes.numbers = omega arith in
      let to_none : 0 + z.leaves.numbers ≡ z.leaves.numbers = omega arith in
      let r = subst (λ k. Runs of_numbers k (0 + z.leaves.numbers) p) from_none (t.runs of_numbers 0) in
      parts_more n me coarrays readable p (λ u d. Sound u d × Stand (rise z.takes.numbers p) vs d.values) After
      (λ u d v. (let x = stand_apart z.leaves.numbers vs d.values (subst (λ k. Stand k vs d.values) (r.1 ∙ to_none) v.1) in more u d x.0 v.0 x.1 x.2)) y c
      (quiet_fits n me coarrays readable p q.quiet z.takes.numbers r.0 vs y c i s)

  -- parts that leave nothing on numbers that stay
  pub ending : {m : ℕ} {p : Parts Act} → Turns (numbers m 0) p → Safe readable p → (vs : List ℤ) (y : Sizes) (c : Core) → Sound y c → Stand m vs c.values → Fit p (Done vs) y c
  ending t q vs y c i s = passed t q vs (Done vs) y c i s (λ u d xs j l e. (j, e ∙ ap (λ z. z ++ vs) (no_numbers xs l)))

  pub leaves : {p : Parts Act} (m : ℕ) → Safe readable p → Leaves (tested_of of_numbers) (taken_of of_numbers) (left_of of_numbers) m p → Leave n me coarrays readable m p
  leaves {p} m q l vs y c i e =
      parts_more n me coarrays readable p (λ u d. Sound u d × Stand (rise 0 p) vs d.values) (λ u d. Sound u d × Stand m vs d.values) (λ u d v. (v.0, subst (λ k. Stand k vs d.values) l.1 v.1)) y c
      (quiet_fits n me coarrays readable p q.quiet 0 l.0 vs y c i e)

  pub freed : (p : Parts Act) → Leave n me coarrays readable 0 p → Leave n me coarrays readable 0 (released p)
  freed p h = by_takes (takes p)
    where
      by_takes : (b : Bool) → Leave n me coarrays readable 0 (cond b (p ▸ doing (stack a.release ∷ [])) p)
      by_takes true vs y c i e =
          parts_more n me coarrays readable p (Done vs) (Fit (doing (stack a.release ∷ [])) (Done vs)) (λ u d v. ending (one_act {b = stack a.release}) (one tt) vs u d v.0 v.1) y c (h vs y c i e)
      by_takes false vs y c i e = h vs y c i e

  -- ---- the place of the cell
  pub placed_cell : (e : Environment) (k : ℕ) (ss : t.Subscripts) (q : Parts Act) → ranks.AreSubscripts e.program.procedures ss → ranks.IsSection ss 0 → SubscriptsRead readable ss → (vs : List ℤ) (After : Sizes → Core → Type 0) (y : Sizes) (c : Core) → Sound y c
      → c.values ≡ vs → ((u : Sizes) (d : Core) (s : ℕ) → Sound u d → s < most_cells → d.values ≡ pos s ∷ vs → Fit q After u d) → Fit (view.subscripts e ss ▸ doing (bounded (a.co_section k (view.form_of ss 0)) ∷ []) ▸ q) After y c
  placed_cell e k ss q h g w vs After y c i v more =
      let form = view.form_of ss 0 in
      let x = bounded (a.co_section k form) in
      passed (subscripts_turns e ss h) (quiet_subscripts readable e ss h w) vs (Fit (doing (x ∷ []) ▸ q) After) y c i v
      (λ u d xs j l r. subst (λ z. EffectFits n me coarrays readable (effect_of x (with_values d z)) (Fit q After) u) (sym r)
      (pointed n me coarrays readable k form u d xs vs (l ∙ sym (section_numbers ss 0 g)) (section_rank ss 0 g) j (Fit q After) (λ s p. more u (with_values d (pos s ∷ vs)) s j p refl)))

  -- this image's cell
  pub own_celled : IsOneOf n me → (e : Environment) (k : ℕ) (ss : t.Subscripts) → ranks.AreSubscripts e.program.procedures ss → ranks.IsSection ss 0 → SubscriptsRead readable ss → (vs : List ℤ) (After : Sizes → Core → Type 0) (y : Sizes) (c : Core) → Sound y c
      → c.values ≡ vs → ((u : Sizes) (d : Core) (o s : ℕ) → Sound u d → IsOneOf n o → s < most_cells → d.values ≡ pos o ∷ pos s ∷ vs → After u d) → Fit (control.cell e (t.part (objects.Coarray k) ss t.no_selector)) After y c
  own_celled there e k ss h g w vs After y c i v more =
      let x = selector (a.own_image 0) in
      placed_cell e k ss (doing (x ∷ [])) h g w vs After y c i v
      (λ u d s j p r. subst (λ z. EffectFits n me coarrays readable (effect_of x (with_values d z)) After u) (sym r)
      (own_imaged n me coarrays readable u d (pos s) vs After (more u (with_values d (pos d.me ∷ pos s ∷ vs)) d.me s j (subst (IsOneOf n) (sym j.own) there) p refl)))

  -- ---- the owner by an image selector
  pub celled : (e : Environment) (k : ℕ) (ss : t.Subscripts) (cs : t.Expressions) (which : t.SelectedTeam) (stat : t.OptionalResult) → ranks.IsPart e.program.procedures (t.part (objects.Coarray k) ss (t.selector cs which stat)) 0
      → PlaceReads readable (t.part (objects.Coarray k) ss (t.selector cs which stat)) → (vs : List ℤ) (After : Sizes → Core → Type 0) (y : Sizes) (c : Core) → Sound y c → c.values ≡ vs
      → ((u : Sizes) (d : Core) (o s : ℕ) (ps : List ℤ) → Sound u d → IsOneOf n o → s < most_cells → length ps ≡ view.optional_size stat → d.values ≡ pos o ∷ pos s ∷ (ps ++ vs) → After u d)
      → Fit (control.cell e (t.part (objects.Coarray k) ss (t.selector cs which stat))) After y c
  celled e k ss cs which stat h w vs After y c i v more =
      let m = view.optional_size stat in
      let j = view.count_of cs in
      let last = doing (selector (a.owner k 0 j) ∷ []) in
      let third = bringing m (place_size 0 + (j + 1)) ▸ last in
      let second = view.optional_place e stat ▸ third in
      let first = view.selected_team e which ▸ second in
      placed_cell e k ss (view.owner e k 0 (t.selector cs which stat)) h.0 h.1 w.0 vs After y c i v
      (λ u d s i1 p v1. passed (expressions_turns e cs h.2.0) (quiet_expressions readable e cs h.2.0 w.1.0) (pos s ∷ vs) (Fit first After) u d i1 v1
      (λ u2 d2 ys i2 l2 v2. passed (selected_turns e which h.2.1) (quiet_selected readable e which h.2.1 w.1.1) (ys ++ (pos s ∷ vs)) (Fit second After) u2 d2 i2 v2
      (λ u3 d3 ts i3 l3 v3. passed (place_turns e stat h.2.2) (quiet_place readable e stat h.2.2 w.1.2) (ts ++ (ys ++ (pos s ∷ vs))) (Fit third After) u3 d3 i3 v3
      (λ u4 d4 ps i4 l4 v4. owned s p u4 d4 ys ts ps i4 l2 l3 l4 v4))))
    where
      owned : (s : ℕ) → s < most_cells → (u : Sizes) (d : Core) (ys ts ps : List ℤ) → Sound u d → length ys ≡ view.count_of cs → length ts ≡ 1 → length ps ≡ view.optional_size stat → d.values ≡ ps ++ (ts ++ (ys ++ (pos s ∷ vs)))
          → Fit (bringing (view.optional_size stat) (place_size 0 + (view.count_of cs + 1)) ▸ doing (selector (a.owner k 0 (view.count_of cs)) ∷ [])) After u d
      owned s small u d ys ts ps i ly lt lp v =
          let m = view.optional_size stat in
          let j = view.count_of cs in
          let x = selector (a.owner k 0 j) in
          let w = one_number ts lt in
          let bs = w.0 ∷ (ys ++ (pos s ∷ [])) in
          let back : (us : List ℤ) → bs ++ us ≡ w.0 ∷ (ys ++ (pos s ∷ us)) = λ us. ap (λ z. w.0 ∷ z) (append_assoc ys (pos s ∷ []) us) in
          let here : d.values ≡ ps ++ (bs ++ vs) = v ∙ (ap (λ z. ps ++ (z ++ (ys ++ (pos s ∷ vs)))) w.1 ∙ ap (λ z. ps ++ z) (sym (back vs))) in
          let many : length bs ≡ place_size 0 + (j + 1) = (let q = long ys (pos s ∷ []) in omega arith) in
          lifted n me coarrays readable m (place_size 0 + (j + 1)) u d ps bs vs lp many i here (Fit (doing (x ∷ [])) After)
          (λ f g r. subst (λ z. EffectFits n me coarrays readable (effect_of x (with_values f z)) After u) (sym (r ∙ back (ps ++ vs)))
          (imaged n me coarrays readable k j u f w.0 (pos s) ys (ps ++ vs) ly g After (λ o one'. more u (with_values f (pos o ∷ pos s ∷ (ps ++ vs))) o s ps g one' small lp refl)))

  -- ---- an ask of the cell
  -- it takes the owner and the place, and leaves m numbers
  abbrev pub IsAsked : a.AskAct → ℕ → Type 1
  IsAsked x m = (y : Sizes) (c : Core) (o s : ℕ) (us : List ℤ) (After : Sizes → Core → Type 0) → IsOneOf n o → s < most_cells → Sound y c → ((d : Core) (xs : List ℤ) → Sound y d → length xs ≡ m → d.values ≡ xs ++ us → After y d)
      → EffectFits n me coarrays readable (effect_of (ask x) (with_values c (pos o ∷ pos s ∷ us))) After y

  -- result places are put down, the coarray is there, and the place and the owner once more: then comes the ask, and
  -- behind it parts that take all
  pub asked : (x : a.AskAct) (m : ℕ) → IsAsked x m → (tail : List Act) {q k : ℕ} {place there more : Parts Act} → Turns (numbers 0 q) place → Safe readable place → Turns none there → Safe readable there
      → Turns (numbers (m + (q + (k + 2))) 0) (doing tail ▸ more) → Safe readable (doing tail ▸ more) → (vs ps : List ℤ) (y : Sizes) (c : Core) (o s : ℕ) → Sound y c → IsOneOf n o → s < most_cells → length ps ≡ k
      → c.values ≡ pos o ∷ pos s ∷ (ps ++ vs) → Fit (place ▸ there ▸ copying q 2 ▸ doing (ask x ∷ tail) ▸ more) (Done vs) y c
  asked x m asks tail {q} {k} {place} {there} {more} tp sp th sh te se vs ps y c o s i one' small lp v =
      let us = pos o ∷ pos s ∷ (ps ++ vs) in
      let asking = doing (ask x ∷ tail) ▸ more in
      passed tp sp us (Fit (there ▸ copying q 2 ▸ asking) (Done vs)) y c i v
      (λ u d qs j lq w. passed th sh (qs ++ us) (Fit (copying q 2 ▸ asking) (Done vs)) u d j w
      (λ u2 f xs g lx r. copied u2 f qs g lq (r ∙ ap (λ z. z ++ (qs ++ us)) (no_numbers xs lx))))
    where
      us : List ℤ
      us = pos o ∷ pos s ∷ (ps ++ vs)

      whole : (xs qs : List ℤ) → xs ++ (qs ++ us) ≡ (xs ++ (qs ++ (pos o ∷ pos s ∷ ps))) ++ vs
      whole xs qs = ap (λ z. xs ++ z) (sym (append_assoc qs (pos o ∷ pos s ∷ ps) vs)) ∙ sym (append_assoc xs (qs ++ (pos o ∷ pos s ∷ ps)) vs)

      many : (xs qs : List ℤ) → length xs ≡ m → length qs ≡ q → length (xs ++ (qs ++ (pos o ∷ pos s ∷ ps))) ≡ m + (q + (k + 2))
      many xs qs lx lq = (let f = long xs (qs ++ (pos o ∷ pos s ∷ ps)) in let g = long qs (pos o ∷ pos s ∷ ps) in let h : length (pos o ∷ pos s ∷ ps) ≡ suc (suc (length ps)) = refl in let p = lp in omega arith)

      ends : (xs qs : List ℤ) (u : Sizes) (d : Core) → Sound u d → length xs ≡ m → length qs ≡ q → d.values ≡ xs ++ (qs ++ us) → Fit (doing tail ▸ more) (Done vs) u d
      ends xs qs u d j lx lq w = ending te se vs u d j (subst (Stand (m + (q + (k + 2))) vs) (sym (w ∙ whole xs qs)) (stand_of (m + (q + (k + 2))) (xs ++ (qs ++ (pos o ∷ pos s ∷ ps))) vs (many xs qs lx lq)))

      copied : (u : Sizes) (f : Core) (qs : List ℤ) → Sound u f → length qs ≡ q → f.values ≡ qs ++ us → Fit (copying q 2 ▸ doing (ask x ∷ tail) ▸ more) (Done vs) u f
      copied u f qs g lq r =
          subst (λ z. EffectFits n me coarrays readable (effect_of (stack (a.copy q 2)) (with_values f z)) (Fit (doing (ask x ∷ tail) ▸ more) (Done vs)) u) (sym r)
          (two_copied n me coarrays readable q u f qs (pos o) (pos s) (ps ++ vs) lq (Fit (doing (ask x ∷ tail) ▸ more) (Done vs))
          (asks u f o s (qs ++ us) (Fit (doing tail) (Fit more (Done vs))) one' small g (λ d xs j lx w. ends xs qs u d j lx lq w)))
