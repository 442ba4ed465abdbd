-- Why an image makes no step now.
use Rattle.std.specs.Prelude.{ℕ, ◌≡◌, ◌-◌, ◌<◌, ◌≤◌, ◌^◌, ◌⊎◌, false, List}
use Rattle.caf_base.specs.declared.place.Place.{Place}
use Rattle.caf_base.specs.declared.place.Place.TheVariants.{Memory, Board, Own}
use Rattle.caf_events.specs.declared.ask.Ask.{Ask}
use Rattle.caf_events.specs.declared.object.Object as objects
use Rattle.caf_events.specs.declared.walker.Walker as walker
use Rattle.caf_events.specs.Asks.{place_of}
use Rattle.caf_events.specs.Histories.{last_stamp_of}
use Rattle.caf_events.specs.Walkers.{AsksNext}
use Rattle.core_runs.specs.Lists.{last_of}
use Rattle.image_core.specs.declared.run.ImageRun.{ImageRun}
use Rattle.image_core.specs.Prepared.{move_of}
use Rattle.turn_gate.specs.Gates.{At}
use Rattle.turn_gate.specs.Known.{Known}
use Rattle.turn_gate.specs.Passes.{Opened}
use Rattle.image_gate.specs.declared.passes.Passes.{Passes}

-- the object wasn't ready for the ask after what the pass has seen of it, or the last stamp of the image or of the
-- object is one behind which no step is made
abbrev pub IsNotNow : {O : Type 0} → objects.Ghosts O → Opened O → Known → Ask → ℕ → Type 0
IsNotNow object gate pass ask after = (object.ready_after (object.made gate.start) pass.seen pass.image ask ≡ false) ⊎ (2 ^ 62 ≤ after) ⊎ (2 ^ 62 ≤ last_stamp_of pass.seen)

module _ {O B : Type 0} (memory : objects.Ghosts O) (control : objects.Ghosts B) (board : Opened B) (memories : List (Opened O)) where
  -- the same at the gate of a place, by an image's passes; what an image does by itself waits for nothing but a stamp
  abbrev pub IsHeldAt : Passes → Ask → ℕ → Place → Type 0
  IsHeldAt p ask after Own = 2 ^ 62 ≤ after
  IsHeldAt p ask after Board = IsNotNow control board p.board ask after
  IsHeldAt p ask after (Memory owner) = (g : Opened O) (k : Known) → 0 < owner.0 → At memories (owner.0 - 1) g → At p.memories.items (owner.0 - 1) k → IsNotNow memory g k ask after

  -- an image that has a next ask waits with it
  abbrev pub Waits : {M : Type 0} → walker.Ghosts M → ImageRun M → Passes → Type 0
  Waits walks r p = (ask : Ask) → AsksNext (move_of walks r) ask → IsHeldAt p ask (last_of r.events.items) (place_of ask)
