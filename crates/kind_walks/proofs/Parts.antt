-- Parts that suit, as they are put together.
use Rattle.std.proofs.Common.{ℕ, Bool, true, false, cond, List, [], ◌∷◌}
use Rattle.std.specs.Prelude.{ℤ, Option}
use Rattle.caf_base.specs.declared.value.Kind.{Kind}
use Rattle.caf_base.specs.Arithmetic.{is_true}
use Rattle.walk_theory.specs.Language as language
use Rattle.walk_theory.specs.Language.{Tested, no_value, holds, fails}
use Rattle.walk_theory.specs.Syntax.{Parts, end_parts, value, act, enter, either}
use Rattle.object_rules.specs.Cells.{Declared}
use Rattle.image_acts.specs.Acts.{Act}
use Rattle.image_acts.specs.Core.{Core, with_values}
use Rattle.image_acts.specs.Taking.{Acted, tested}
use Rattle.image_acts.specs.Meaning.{effect_of}
use Rattle.kind_walks.specs.Kinds.{Layout, Typing, IsSo, IsOf, Are, with_number}
use Rattle.kind_walks.specs.Suiting.{Joined, joined_by, EffectSuits, TestSuits, PartsSuit, Leads}

abbrev pub Within : (P Q : Joined → Core → Type 0) → Type 0
Within P Q = (j : Joined) (c : Core) → P j c → Q j c

module _ (coarrays : List Declared) where
  pub effect_more : (P Q : Joined → Core → Type 0) → Within P Q → (j : Joined) (e : Acted) → EffectSuits coarrays e P j → EffectSuits coarrays e Q j
  effect_more P Q w j (language.goes_to d) h = w j d h
  effect_more P Q w j (language.faults k) h = h
  effect_more P Q w j (language.asking a f) h = (h.0, λ r x. w (joined_by a) (f r) (h.1 r x))
  effect_more P Q w j (language.ends_with a) h = h
  effect_more P Q w j language.stuck h = h

  test_more : (t : Tested Core) (P Q P' Q' : Core → Type 0) → ((c : Core) → P c → P' c) → ((c : Core) → Q c → Q' c) → TestSuits coarrays t P Q → TestSuits coarrays t P' Q'
  test_more no_value P Q P' Q' v w h = h
  test_more (holds c) P Q P' Q' v w h = v c h
  test_more (fails c) P Q P' Q' v w h = w c h

  module _ (n : ℕ) (layouts : ℕ → Layout) where
    abbrev On : Parts Act → (Joined → Core → Type 0) → Joined → Core → Type 0
    On p After j c = PartsSuit coarrays n layouts p After j c

    pub parts_more : (p : Parts Act) (P Q : Joined → Core → Type 0) → Within P Q → Within (On p P) (On p Q)
    parts_more end_parts P Q w j c h = w j c h
    parts_more (value p q) P Q w j c h = parts_more p (On q P) (On q Q) (parts_more q P Q w) j c h
    parts_more (act a q) P Q w j c h = effect_more (On q P) (On q Q) (parts_more q P Q w) j (effect_of a c) h
    parts_more (enter k q) P Q w j c h = (h.0, h.1, h.2, λ i d x. parts_more q P Q w i d (h.3 i d x))
    parts_more (either a b q) P Q w j c h =
        let P' = On q P in
        let Q' = On q Q in
        test_more (tested c) (On a P' j) (On b P' j) (On a Q' j) (On b Q' j) (parts_more a P' Q' (parts_more q P Q w) j) (parts_more b P' Q' (parts_more q P Q w) j) h

    -- one after another
    pub leads_then : (p : Parts Act) (s t : Typing) → Leads coarrays n layouts s p t → (After : Joined → Core → Type 0) → ((i : Joined) (d : Core) → IsSo n t d → After i d) → (j : Joined) (c : Core) → IsSo n s c
        → On p After j c
    leads_then p s t h After more j c i = parts_more p (λ y d. IsSo n t d) After more j c (h j c i)

  -- a truth value is taken
  pub test_suits : (n : ℕ) (k : Option Kind) (s : Typing) (c : Core) (P Q : Core → Type 0) → IsSo n (with_number k s) c → ((d : Core) → IsSo n s d → P d) → ((d : Core) → IsSo n s d → Q d)
      → TestSuits coarrays (tested c) P Q
  test_suits n k s c P Q h p q = by_values c.values h.numbers
    where
      rest : (ws : List ℤ) → Are IsOf s.numbers ws → IsSo n s (with_values c ws)
      rest ws a = record { numbers = a; arrays = h.arrays; running = h.running; callers = h.callers; images = h.images; known = h.known; formed = h.formed }

      by_truth : (b : Bool) (ws : List ℤ) → Are IsOf s.numbers ws → TestSuits coarrays (cond b (holds (with_values c ws)) (fails (with_values c ws))) P Q
      by_truth true ws a = p (with_values c ws) (rest ws a)
      by_truth false ws a = q (with_values c ws) (rest ws a)

      by_values : (us : List ℤ) → Are IsOf (k ∷ s.numbers) us → TestSuits coarrays (elim us [ [] ↦ fails c | w ∷ ws ↦ cond (is_true w) (holds (with_values c ws)) (fails (with_values c ws)) ]) P Q
      by_values [] a = absurd a
      by_values (u ∷ us) a = by_truth (is_true u) us a.1
