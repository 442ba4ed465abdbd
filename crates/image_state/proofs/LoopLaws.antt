-- The start of a DO construct's iterations.
use Rattle.std.proofs.Common.{◌≡◌, ℕ, zero, suc, ◌+◌, ◌<◌, ℤ, pos, negsuc, Bool, true, false, List, [], ◌∷◌, length, drop, refl, ap, sym, ◌∙◌, subst, arith}
use Rattle.std.specs.Prelude.{Some, None, slice_get, min, ◌-◌, ◌+ℤ◌, ◌-ℤ◌, ◌<ℤ◌, cond}
use Rattle.std.proofs.lemmas.Int.{ints}
use Rattle.walk_theory.specs.Language.{goes_to}
use Rattle.walk_theory.specs.Terms.{found, at_fault}
use Rattle.std.specs.Ordering.{int_eq}
use Rattle.caf_base.specs.Arithmetic.{iterations, fits_kind, natural}
use Rattle.caf_base.specs.declared.value.Kind.{Kind}
use Rattle.image_acts.specs.Faults.{overflow}
use Rattle.image_acts.specs.Taking.{Acted, given, unless}
use Rattle.image_acts.specs.Operate.Operators.{in_kind}
use Rattle.image_acts.specs.Acts as a
use Rattle.image_acts.specs.Core.{Core, with_values}
use Rattle.image_acts.specs.Frames.{with_cell, cell_in}
use Rattle.image_acts.specs.Statuses.{most_iterations}
use Rattle.image_acts.specs.Operate.Variables.{variable_effect}
use Rattle.image_state.specs.Kept.{Kept}
use Rattle.image_state.specs.declared.state.Acting.{Acting}
use Rattle.image_state.specs.declared.state.Acting.TheVariants as actings
use Rattle.image_state.specs.Acting.{with_core, Acts}
use Rattle.image_state.proofs.Taking.{taken_none}

-- three numbers on top
pub three_are : (vs : List ℤ) (u v w : ℤ) → slice_get vs 0 ≡ Some w → slice_get vs 1 ≡ Some v → slice_get vs 2 ≡ Some u → vs ≡ w ∷ v ∷ u ∷ drop 3 vs
three_are [] u v w a b c = absurd (cc)
three_are (x ∷ []) u v w a b c = absurd (cc)
three_are (x ∷ y ∷ []) u v w a b c = absurd (cc)
three_are (x ∷ y ∷ z ∷ []) u v w a b c = (let e : x ≡ w = cc in let f : y ≡ v = cc in let g : z ≡ u = cc in rw (e, f, g) refl)
three_are (x ∷ y ∷ z ∷ q ∷ qs) u v w a b c = (let e : x ≡ w = cc in let f : y ≡ v = cc in let g : z ≡ u = cc in rw (e, f, g) refl)

pub fewer_than_three : (vs : List ℤ) (n : ℕ) → n < 3 → slice_get vs n ≡ None → length vs < 3
fewer_than_three [] n l h = omega arith
fewer_than_three (x ∷ []) n l h = omega arith
fewer_than_three (x ∷ y ∷ []) n l h = omega arith
fewer_than_three (x ∷ y ∷ z ∷ zs) zero l h = absurd (cc)
fewer_than_three (x ∷ y ∷ z ∷ zs) (suc zero) l h = absurd (cc)
fewer_than_three (x ∷ y ∷ z ∷ zs) (suc (suc zero)) l h = absurd (cc)
fewer_than_three (x ∷ y ∷ z ∷ zs) (suc (suc (suc n))) l h = absurd (omega arith)

module _ (m : Kept) (s : a.Scope) (x t : ℕ) where
  pub range_missing : length m.core.values < 3 → Acts m (variable_effect (a.begin_iterations s x t) m.core) m actings.Stuck
  range_missing h = rw (taken_none 3 m.core.values [] h) (refl, refl)

  pub range_stops : (first last step : ℤ) (vs : List ℤ) → m.core.values ≡ step ∷ last ∷ first ∷ vs → int_eq step (pos 0) ≡ true → Acts m (variable_effect (a.begin_iterations s x t) m.core) m (actings.Fault 4)
  range_stops first last step vs h z = rw (h, z) (refl, refl)

  pub range_begins : (first last step : ℤ) (vs : List ℤ) (e : Kept) → m.core.values ≡ step ∷ last ∷ first ∷ vs → int_eq step (pos 0) ≡ false
      → e ≡ with_core m (with_cell a.here t (pos (min (iterations first last step) most_iterations)) (with_cell a.here (t + 1) step (with_cell s x first (with_values m.core vs))))
      → Acts m (variable_effect (a.begin_iterations s x t) m.core) e actings.Done
  range_begins first last step vs e h z g = rw (h, z) (refl, g)

-- a count that is less by one
pub count_less : (v : ℤ) → pos 0 <ℤ v → v -ℤ pos 1 ≡ pos (natural v - 1)
count_less (pos zero) h = absurd (omega (arith, h))
count_less (pos (suc k)) h = omega (arith, ints)
count_less (negsuc k) h = absurd (omega (arith, h))

-- the next iteration
module _ (m : Kept) (s : a.Scope) (x t : ℕ) (k : Kind) where
  abbrev moved : ℤ → ℤ → Core
  moved z left = with_cell a.here t (pos (natural left - 1)) (with_cell s x z m.core)

  abbrev from_left : ℤ → ℤ → ℤ → Acted
  from_left v step left = unless overflow (fits_kind k (v +ℤ step)) (goes_to (moved (v +ℤ step) left))

  abbrev from_step : ℤ → ℤ → Acted
  from_step v step = given (cell_in a.here t m.core) (from_left v step)

  abbrev from_value : ℤ → Acted
  from_value v = given (cell_in a.here (t + 1) m.core) (from_step v)

  pub no_value : cell_in s x m.core ≡ None → Acts m (variable_effect (a.next_iteration s x t k) m.core) m actings.Stuck
  no_value h = subst (λ o. Acts m (given o from_value) m actings.Stuck) (sym h) (refl, refl)

  pub no_step : (v : ℤ) → cell_in s x m.core ≡ Some v → cell_in a.here (t + 1) m.core ≡ None → Acts m (variable_effect (a.next_iteration s x t k) m.core) m actings.Stuck
  no_step v h i = subst (λ o. Acts m (given o from_value) m actings.Stuck) (sym h) (subst (λ o. Acts m (given o (from_step v)) m actings.Stuck) (sym i) (refl, refl))

  pub no_count : (v step : ℤ) → cell_in s x m.core ≡ Some v → cell_in a.here (t + 1) m.core ≡ Some step → cell_in a.here t m.core ≡ None → Acts m (variable_effect (a.next_iteration s x t k) m.core) m actings.Stuck
  no_count v step h i j = subst (λ o. Acts m (given o from_value) m actings.Stuck) (sym h) (subst (λ o. Acts m (given o (from_step v)) m actings.Stuck) (sym i) (subst (λ o. Acts m (given o (from_left v step)) m actings.Stuck) (sym j) (refl, refl)))

  all_there : (e : Kept) (w : Acting) (v step left : ℤ) → cell_in s x m.core ≡ Some v → cell_in a.here (t + 1) m.core ≡ Some step → cell_in a.here t m.core ≡ Some left → Acts m (from_left v step left) e w → Acts m (variable_effect (a.next_iteration s x t k) m.core) e w
  all_there e w v step left h i j g = subst (λ o. Acts m (given o from_value) e w) (sym h) (subst (λ o. Acts m (given o (from_step v)) e w) (sym i) (subst (λ o. Acts m (given o (from_left v step)) e w) (sym j) g))

  faults_by : (b : Bool) (u : ℤ) (n : ℕ) (d : Core) → at_fault n ≡ cond b (found u) (at_fault overflow) → Acts m (unless overflow b (goes_to d)) m (actings.Fault n)
  faults_by true u n d h = absurd (cc)
  faults_by false u n d h = (let f : n ≡ 1 = cc in (ap actings.Fault f, refl))

  pub next_faults : (v step left : ℤ) (n : ℕ) → cell_in s x m.core ≡ Some v → cell_in a.here (t + 1) m.core ≡ Some step → cell_in a.here t m.core ≡ Some left → at_fault n ≡ in_kind k (v +ℤ step) → Acts m (variable_effect (a.next_iteration s x t k) m.core) m (actings.Fault n)
  next_faults v step left n h i j f = all_there m (actings.Fault n) v step left h i j (faults_by (fits_kind k (v +ℤ step)) (v +ℤ step) n (moved (v +ℤ step) left) f)

  goes_by : (b : Bool) (u z left : ℤ) (e : Kept) → found z ≡ cond b (found u) (at_fault overflow) → e ≡ with_core m (moved z left) → Acts m (unless overflow b (goes_to (moved u left))) e actings.Done
  goes_by true u z left e h g = (let f : z ≡ u = cc in (refl, g ∙ ap (λ y. with_core m (moved y left)) f))
  goes_by false u z left e h g = absurd (cc)

  pub next_goes : (v step left z : ℤ) (e : Kept) → cell_in s x m.core ≡ Some v → cell_in a.here (t + 1) m.core ≡ Some step → cell_in a.here t m.core ≡ Some left → found z ≡ in_kind k (v +ℤ step) → e ≡ with_core m (moved z left) → Acts m (variable_effect (a.next_iteration s x t k) m.core) e actings.Done
  next_goes v step left z e h i j f g = all_there e actings.Done v step left h i j (goes_by (fits_kind k (v +ℤ step)) (v +ℤ step) z left e f g)
