-- The run that goes on behind a trace that was given: the images take their turns as they stand in it, and then by
-- rotation.
use Rattle.std.specs.Prelude.{ℕ, ◌≡◌, ◌<◌, ◌⊎◌, List, [], ◌∷◌, ◌++◌, map}
use Rattle.caf_events.specs.declared.ask.Ask.{Ask}
use Rattle.caf_events.specs.declared.event.Entry.{Entry}
use Rattle.core_runs.specs.Beginnings.{Beginning, IsImage}
use Rattle.core_runs.specs.CoreRuns.{of_image, of_memory, at_board}
use Rattle.core_runs.specs.Lists.{image_of}
use Rattle.core_runs.specs.Moments.{Rules}
use Rattle.core_runs.specs.Orders.{Chooser, NoneEnds, IsOrderTrace}
use Rattle.core_runs.specs.Waits.{HasEndedIn, IsWaiting}
use Rattle.image_core.specs.declared.choices.Choices.{Choices}
use Rattle.image_core.specs.declared.choices.Choices.TheVariants.{Rotate}
use Rattle.image_core.specs.Choosing.{choosing}

-- how the images take turns: first these, one after the other, and then by choices
pub record Turns : Type 0 where
  pub first : List ℕ
  pub choices : Choices

abbrev pub turn_of : List ℕ → Choices → List ℕ → ℕ
turn_of [] s candidates = choosing.chosen s candidates
turn_of (i ∷ is) s candidates = i

abbrev pub turns_left : List ℕ → Choices → List ℕ → Turns
turns_left [] s candidates = record { first = []; choices = choosing.after s candidates }
turns_left (i ∷ is) s candidates = record { first = is; choices = s }

abbrev pub turning : Chooser Turns
turning = record { chosen = λ v candidates. turn_of v.first v.choices candidates; after = λ v candidates. turns_left v.first v.choices candidates }

-- first the images of a trace, as its entries stand in it, and then by rotation from 0
abbrev pub turns_of : List Entry → Turns
turns_of t = record { first = map image_of t; choices = Rotate 0 }

-- these entries stand in front of those
abbrev pub IsFront : List Entry → List Entry → Type 0
IsFront xs ys = (rest : List Entry) × (ys ≡ xs ++ rest)

-- each list of a trace stands in front of that of another one: that of each image, of each memory and of the board
pub record HasFronts (t t' : List Entry) : Type 0 where
  pub images : (i : ℕ) → IsFront (of_image i t) (of_image i t')
  pub memories : (i : ℕ) → 0 < i → IsFront (of_memory i t) (of_memory i t')
  pub board : IsFront (at_board t) (at_board t')

-- the image does nothing more behind a trace: its last event ended it, or it waits
abbrev pub IsIdle : {C M B : Type 0} → Rules C M B → Beginning C M B → List Entry → ℕ → Type 0
IsIdle r b t i = HasEndedIn i t ⊎ ((line : ℕ) × (ask : Ask) × IsWaiting r b t i line ask)

-- The trace of the run that goes on behind a core run: that itself, where one of its events ended the run; else that of
-- the run in which the images take turns as they stand in it, and then by rotation from 0, to the end of the run.
pub record GoesOn {C M B : Type 0} (r : Rules C M B) (b : Beginning C M B) (t t' : List Entry) : Type 0 where
  pub fronts : HasFronts t t'
  pub ended : (NoneEnds t → ⊥) → t' ≡ t
  -- it is the trace itself too where no image does anything more behind it
  pub idle : ((i : ℕ) → IsImage b i → IsIdle r b t i) → t' ≡ t
  pub onward : NoneEnds t → IsOrderTrace r b turning (turns_of t) t'
