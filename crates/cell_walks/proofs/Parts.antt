-- Parts that fit, as they are put together.
use Rattle.std.proofs.Common.{◌≡◌, ℕ, suc, Bool, true, false, cond, List, [], ◌∷◌}
use Rattle.std.specs.Prelude.{ℤ}
use Rattle.caf_base.specs.Arithmetic.{is_true}
use Rattle.walk_theory.specs.Language as language
use Rattle.walk_theory.specs.Language.{Tested, no_value, holds, fails}
use Rattle.walk_theory.specs.Syntax.{Parts, end_parts, value, act, enter, either}
use Rattle.object_rules.specs.Cells.{Declared}
use Rattle.image_acts.specs.Acts.{Act}
use Rattle.image_acts.specs.Core.{Core, with_values}
use Rattle.image_acts.specs.Taking.{Acted, tested}
use Rattle.image_acts.specs.Meaning.{effect_of}
use Rattle.stack_laws.specs.Exact.{Stand}
use Rattle.told_walks.specs.Asked.{sizes_by}
use Rattle.cell_walks.specs.Fitting.{Sizes, EffectFits, TestFits, PartsFit, Leave, IsSound}

abbrev pub Within : (P Q : Sizes → Core → Type 0) → Type 0
Within P Q = (z : Sizes) (c : Core) → P z c → Q z c

module _ (n me : ℕ) (coarrays : List Declared) (readable : ℕ → Bool) where
  pub effect_more : (P Q : Sizes → Core → Type 0) → Within P Q → (z : Sizes) (e : Acted) → EffectFits n me coarrays readable e P z → EffectFits n me coarrays readable e Q z
  effect_more P Q w z (language.goes_to d) h = w z d h
  effect_more P Q w z (language.faults k) h = h
  effect_more P Q w z (language.asking a f) h = (h.0, λ r x. w (sizes_by z a) (f r) (h.1 r x))
  effect_more P Q w z (language.ends_with a) h = h
  effect_more P Q w z language.stuck h = h

  test_more : (t : Tested Core) (P Q P' Q' : Core → Type 0) → ((c : Core) → P c → P' c) → ((c : Core) → Q c → Q' c) → TestFits n me coarrays readable t P Q → TestFits n me coarrays readable t P' Q'
  test_more no_value P Q P' Q' v w h = h
  test_more (holds c) P Q P' Q' v w h = v c h
  test_more (fails c) P Q P' Q' v w h = w c h

  pub parts_more : (p : Parts Act) (P Q : Sizes → Core → Type 0) → Within P Q → Within (PartsFit n me coarrays readable p P) (PartsFit n me coarrays readable p Q)
  parts_more end_parts P Q w z c h = w z c h
  parts_more (value p q) P Q w z c h = parts_more p (PartsFit n me coarrays readable q P) (PartsFit n me coarrays readable q Q) (parts_more q P Q w) z c h
  parts_more (act a q) P Q w z c h = effect_more (PartsFit n me coarrays readable q P) (PartsFit n me coarrays readable q Q) (parts_more q P Q w) z (effect_of a c) h
  parts_more (enter k q) P Q w z c h = (h.0, λ y d i e. parts_more q P Q w y d (h.1 y d i e))
  parts_more (either a b q) P Q w z c h =
      let P' = PartsFit n me coarrays readable q P in
      let Q' = PartsFit n me coarrays readable q Q in
      test_more (tested c) (PartsFit n me coarrays readable a P' z) (PartsFit n me coarrays readable b P' z) (PartsFit n me coarrays readable a Q' z) (PartsFit n me coarrays readable b Q' z)
      (parts_more a P' Q' (parts_more q P Q w) z) (parts_more b P' Q' (parts_more q P Q w) z) h

  -- a truth value that stands on others is taken
  pub test_fits : (m : ℕ) (vs : List ℤ) (c : Core) (P Q : Core → Type 0) → Stand (suc m) vs c.values → ((ws : List ℤ) → Stand m vs ws → P (with_values c ws)) → ((ws : List ℤ) → Stand m vs ws → Q (with_values c ws))
      → TestFits n me coarrays readable (tested c) P Q
  test_fits m vs c P Q s p q = by_values c.values s
    where
      by_truth : (b : Bool) (ws : List ℤ) → Stand m vs ws → TestFits n me coarrays readable (cond b (holds (with_values c ws)) (fails (with_values c ws))) P Q
      by_truth true ws s = p ws s
      by_truth false ws s = q ws s

      by_values : (us : List ℤ) → Stand (suc m) vs us → TestFits n me coarrays readable (elim us [ [] ↦ fails c | w ∷ ws ↦ cond (is_true w) (holds (with_values c ws)) (fails (with_values c ws)) ]) P Q
      by_values [] s = absurd s
      by_values (u ∷ us) s = by_truth (is_true u) us s

  -- parts that leave some numbers, and then what holds there
  pub leave_then : (m : ℕ) (p : Parts Act) → Leave n me coarrays readable m p → (vs : List ℤ) (After : Sizes → Core → Type 0) → ((y : Sizes) (d : Core) → IsSound n me y d → Stand m vs d.values → After y d)
      → (z : Sizes) (c : Core) → IsSound n me z c → c.values ≡ vs → PartsFit n me coarrays readable p After z c
  leave_then m p h vs After more z c i e = parts_more p (λ y d. IsSound n me y d × Stand m vs d.values) After (λ y d x. more y d x.0 x.1) z c (h vs z c i e)
