-- Wide code has the walks of the code that it is laid over.
use Rattle.std.proofs.Common.{◌≡◌, ℕ, suc, ◌+◌, List, [], refl, ap, sym, ◌∙◌, subst}
use Rattle.std.specs.Prelude.{Option, Some, None, slice_get}
use Rattle.trace_theory.specs.Machines.{Move, goes, asks, over, go, goes_on, Rests}
use Rattle.trace_theory.specs.Simulations.{Matches, SameRest, Advances}
use Rattle.trace_theory.specs.Equivalence.{SameWalks, Lasts}
use Rattle.trace_theory.proofs.Machines.{go_more, comes_later}
use Rattle.trace_theory.proofs.Equivalence.{same_walks_back, same_walks_through, same_walks_weaken}
use Rattle.trace_theory.proofs.Overlay.{same_walks_over}
use Rattle.walk_theory.specs.Language.{Language}
use Rattle.walk_theory.specs.Syntax.{Steps, body_of}
use Rattle.walk_theory.specs.Walks.{Config, step, start}
use Rattle.walk_theory.specs.Code.{Line, State, at_place, code_step}
use Rattle.walk_theory.specs.Made.{program_code}
use Rattle.walk_theory.specs.Programs.{SameCore}
use Rattle.walk_theory.specs.Wide.{Wides, Placed, wide_fetched, wide_step, Covered, Covers, ComesOf, Unfolds, SameKept, HasWideWalksOf}
use Rattle.walk_theory.proofs.Programs.{has_walks, code_lasts}

module _ {A C Q R W V : Type 0} (L : Language A C Q R) (K : Wides A C Q R W) (kept : C → V) (answers : Q → R → Type 0) (code : List (Line A)) (limit : ℕ) where
  abbrev Same : State C → State C → Type 0
  Same w d = d ≡ w

  abbrev Kept : State C → State C → Type 0
  Kept w d = (kept d.core ≡ kept w.core) × (d.count ≡ w.count)

  matches : (m : Move (State C) Q R) (d : State C) → ComesOf L K code limit kept m d → Matches Same answers (code_step L code limit) m d
  matches (goes e) d h = (suc h.0, e, h.1, refl)
  matches (asks a l k) d h = (k, comes_later (State C) Q R (code_step L code limit) h.steps d h.there a l k h.comes h.stops, λ r ok. refl)
  matches over d h = (h.steps + 1, go_more (State C) Q R (code_step L code limit) h.steps 1 d ∙ ap (λ v. goes_on v (go (code_step L code limit) 1)) h.comes ∙ ap (λ v. goes_on v (go (code_step L code limit) 0)) h.stops)

  advances : (m : Move (State C) Q R) (d : State C) → ComesOf L K code limit kept m d → Advances Same (code_step L code limit) m d
  advances (goes e) d h = (h.0, e, h.1, refl)
  advances (asks a l k) d h = tt
  advances over d h = tt

  stops : (m : Move (State C) Q R) (d : State C) → ComesOf L K code limit kept m d → Rests m → (n : ℕ) × (e : State C) × (go (code_step L code limit) n d ≡ goes e) × Kept d e × SameRest m (code_step L code limit e)
  stops (goes e) d h s = absurd s
  stops (asks a l k) d h s = (h.steps, h.there, h.comes, (h.core, h.count), (k, h.stops))
  stops over d h s = (h.steps, h.there, h.comes, (h.core, h.count), h.stops)

  module _ (unfolds : Unfolds L K code limit kept) (wides : List (Placed W)) (covers : Covers L K code limit wides) where
    comes_of : (d : State C) (o : Option (Placed W)) → Covered L K code limit o d.at → ComesOf L K code limit kept (wide_fetched L K code limit o d) d
    comes_of d None h = record { steps = 0; there = d; comes = refl; stops = rw h refl; core = refl; count = refl }
    comes_of d (Some w) h = unfolds w.wide w.line d h

    here : (d : State C) → ComesOf L K code limit kept (wide_step L K code limit wides d) d
    here d = comes_of d (slice_get wides d.at) (covers d.at)

    -- the wide code has the walks of the code
    pub wide_same_walks : (d : State C) → Lasts answers (code_step L code limit) d → SameWalks answers Same Kept (wide_step L K code limit wides) d (code_step L code limit) d
    wide_same_walks d lasts =
        same_walks_over (State C) (State C) Q R answers Same (wide_step L K code limit wides) (code_step L code limit)
        (λ w d s. subst (λ (e : State C). Matches Same answers (code_step L code limit) (wide_step L K code limit wides w) e) (sym s) (matches (wide_step L K code limit wides w) w (here w)))
        Same Kept
        (λ w d s t. subst (λ (x : State C). (n : ℕ) × (e : State C) × (go (code_step L code limit) n x ≡ goes e) × Kept w e × SameRest (wide_step L K code limit wides w) (code_step L code limit e)) (sym s) (stops (wide_step L K code limit wides w) w (here w) t))
        (λ w d s. subst (λ (e : State C). Advances Same (code_step L code limit) (wide_step L K code limit wides w) e) (sym s) (advances (wide_step L K code limit wides w) w (here w)))
        (λ w d s. s)
        d d refl lasts

module _ {A C Q R W V : Type 0} (L : Language A C Q R) (K : Wides A C Q R W) (kept : C → V) (answers : Q → R → Type 0) (last : A) (bs : List (Steps A)) (l limit : ℕ) (first : C) where
  -- the wide code of a program has its walks
  pub has_wide_walks : Unfolds L K (program_code last l bs) limit kept → (wides : List (Placed W)) → Covers L K (program_code last l bs) limit wides → HasWideWalksOf L K kept answers last bs l limit first (program_code last l bs) wides
  has_wide_walks unfolds wides covers =
      let code = program_code last l bs in
      let tree = step L (body_of bs) limit in
      let plain = code_step L code limit in
      let wide = wide_step L K code limit wides in
      let d = at_place 0 [] first 0 in
      let first_walks = has_walks L answers last bs l limit first in
      let over_walks = same_walks_back (State C) (State C) Q R answers (Same L K kept answers code limit) (Kept L K kept answers code limit) wide d plain d (wide_same_walks L K kept answers code limit unfolds wides covers d (code_lasts L answers last bs l limit first)) in
      same_walks_weaken (Config A C) (State C) Q R answers _ _ SameCore (SameKept kept) tree (start last l first) wide d
      (λ x z h. subst (λ (y : State C). SameCore x y) h.2 h.1)
      (λ x z h. (sym h.2.0 ∙ ap kept h.1.0, sym h.2.1 ∙ h.1.1))
      (same_walks_through (Config A C) (State C) Q R answers SameCore SameCore tree (start last l first) plain d first_walks (State C) (λ y x. Same L K kept answers code limit x y) (λ y x. Kept L K kept answers code limit x y) wide d over_walks)
