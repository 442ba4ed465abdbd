-- The ordered run: steps one after the other, each by the image that is chosen among those that can step.
use Rattle.std.specs.Prelude.{ℕ, ◌≡◌, ◌⊎◌, List, [], ◌∷◌, ◌++◌, length}
use Rattle.std.specs.List.{filter}
use Rattle.caf_events.specs.declared.event.Entry.{Entry}
use Rattle.caf_events.specs.Events.{EndsRun}
use Rattle.trace_theory.specs.Entries.{Each, IsTraceOrder}
use Rattle.core_runs.specs.Lists.{image_of, stamp_of}
use Rattle.core_runs.specs.Moments.{Rules, Moment, can_step, Steps}
use Rattle.core_runs.specs.Beginnings.{Beginning, IsFirst, numbers_to}
use Rattle.core_runs.specs.CoreRuns.{of_image}

-- how choices are made: from where they stand and the candidates, the number of the one that is chosen and where the
-- choices stand then
pub record Chooser (S : Type 0) : Type 0 where
  pub chosen : S → List ℕ → ℕ
  pub after : S → List ℕ → S

-- the candidates: the images that can step now, in rising order
abbrev pub candidates : {C M B : Type 0} → Rules C M B → Moment C M B → List ℕ
candidates r m = filter (can_step r m) (numbers_to (length m.configs))

-- the steps lead from a moment to another one, each by the image that is chosen
abbrev pub Ordered : {C M B S : Type 0} → Rules C M B → Chooser S → S → Moment C M B → List Entry → S → Moment C M B → Type 0
Ordered r ch s m [] s' m' = (s' ≡ s) × (m' ≡ m)
Ordered {C} {M} {B} r ch s m (x ∷ xs) s' m' =
    (x.image.0 ≡ ch.chosen s (candidates r m)) × (next : Moment C M B) × Steps r m x.image.0 x.event next × Ordered r ch (ch.after s (candidates r m)) next xs s' m'

-- none of these steps ends the run
abbrev pub NoneEnds : List Entry → Type 0
NoneEnds xs = Each (λ x. EndsRun x.event → ⊥) xs

-- the last of the steps ends the run, and none before it does
abbrev pub EndsAtLast : List Entry → Type 0
EndsAtLast xs = (before : List Entry) × (last : Entry) × (xs ≡ before ++ last ∷ []) × NoneEnds before × EndsRun last.event

-- the run ends there: with the first step that ends it, or where there is no candidate
abbrev pub IsWhole : {C M B : Type 0} → Rules C M B → List Entry → Moment C M B → Type 0
IsWhole r xs m = EndsAtLast xs ⊎ (NoneEnds xs × (candidates r m ≡ []))

-- an ordered run from its beginning to its end
pub record OrderRun {C M B S : Type 0} (r : Rules C M B) (b : Beginning C M B) (ch : Chooser S) (s : S) (steps : List Entry) : Type 0 where
  pub from : Moment C M B
  pub begins : IsFirst r b from
  pub last : S
  pub to : Moment C M B
  pub ordered : Ordered r ch s from steps last to
  pub whole : IsWhole r steps to

-- the trace of an ordered run: its steps by stamp, then image
pub record IsOrderTrace {C M B S : Type 0} (r : Rules C M B) (b : Beginning C M B) (ch : Chooser S) (s : S) (t : List Entry) : Type 0 where
  pub steps : List Entry
  pub run : OrderRun r b ch s steps
  pub ordered : IsTraceOrder image_of stamp_of t
  pub same : (i : ℕ) → of_image i t ≡ of_image i steps
