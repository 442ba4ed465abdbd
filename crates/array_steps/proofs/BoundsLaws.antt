-- The bounds of a local array as an array value.
use Rattle.std.proofs.Common.{◌≡◌, ℕ, ◌+◌, ◌<◌, ◌≤◌, ℤ, List, length, refl, ap, sym, ◌∙◌, subst, arith}
use Rattle.std.specs.Prelude.{Option, Some, None}
use Rattle.std.proofs.lemmas.Bool.{le-leb, lt-leb}
use Rattle.image_acts.specs.Acts as a
use Rattle.image_acts.specs.Acts.{Scope}
use Rattle.image_acts.specs.Core.{Local, with_array, elements_in}
use Rattle.image_acts.specs.Frames.{array_in, pairs_in, pairs_numbers}
use Rattle.image_acts.specs.Operate.Bounds.{bounds_effect, bounds_on_top}
use Rattle.image_acts.specs.Operate.Variables.{allocated}
use Rattle.array_values.specs.Values.{row_of}
use Rattle.local_arrays.specs.Arrays.{bounds_in}
use Rattle.image_state.specs.Kept.{Kept}
use Rattle.image_state.specs.declared.state.Acting.{Acting}
use Rattle.image_state.specs.declared.state.Acting.TheVariants as actings
use Rattle.image_state.specs.Acting.{with_core, Acts}

module _ (m : Kept) (s : Scope) (x : ℕ) where
  pub bounds_missing : array_in s x m.core ≡ None → Acts m (bounds_effect (a.bounds s x) m.core) m (actings.Fault 6)
  bounds_missing h = subst (λ o. Acts m (allocated o (λ l. bounds_on_top l.bounds m.core)) m (actings.Fault 6)) (sym h) (refl, refl)

  bounds_of : (e : Kept) (w : Acting) (o : Option Local) (bs : List (ℤ × ℤ)) → bounds_in o ≡ Some bs → Acts m (bounds_on_top bs m.core) e w → Acts m (allocated o (λ l. bounds_on_top l.bounds m.core)) e w
  bounds_of e w None bs h g = absurd (cc)
  bounds_of e w (Some l) bs h g = (let k : bs ≡ l.bounds = cc in subst (λ t. Acts m (bounds_on_top t m.core) e w) k g)

  module _ (ns vs : List ℤ) (h : bounds_in (array_in s x m.core) ≡ Some (pairs_in ns)) (i : vs ≡ pairs_numbers (pairs_in ns)) where
    pub bounds_full : 524288 < elements_in m.core.arrays + length vs → Acts m (bounds_effect (a.bounds s x) m.core) m (actings.Fault 11)
    bounds_full l = (let j = ap length i in bounds_of m (actings.Fault 11) (array_in s x m.core) (pairs_in ns) h (rw (lt-leb (elements_in m.core.arrays + length (pairs_numbers (pairs_in ns))) 524288 (omega arith)) (refl, refl)))

    pub bounds_put : (e : Kept) → elements_in m.core.arrays + length vs ≤ 524288 → e ≡ with_core m (with_array (row_of vs) m.core) → Acts m (bounds_effect (a.bounds s x) m.core) e actings.Done
    bounds_put e l g = (let j = ap length i in bounds_of e actings.Done (array_in s x m.core) (pairs_in ns) h (rw (le-leb (elements_in m.core.arrays + length (pairs_numbers (pairs_in ns))) 524288 (omega arith)) (refl, g ∙ ap (λ (t : List ℤ). with_core m (with_array (row_of t) m.core)) i)))
