-- What is known of the entries of a lawful trace while they are searched.
use Rattle.std.specs.Prelude.{ℕ, List, map, Option}
use Rattle.caf_events.specs.declared.event.Entry.{Entry}
use Rattle.core_runs.specs.Beginnings.{IsOneOf}
use Rattle.order_theory.specs.Order.{Within}
use Rattle.order_theory.specs.Clocks.{Covers}
use Rattle.order_theory.specs.Races.{Stands}
use Rattle.order_theory.specs.Stored.{present}
use Rattle.segment_clock.specs.Counts.{count_of}
use Rattle.order_axioms.specs.Views.{speaks_by, view, edges}
use Rattle.race_watch.specs.Tables.{counts_of, IsClockOf}
use Rattle.race_watch.specs.Recorded.{FitsRun}
use Rattle.race_watch.specs.Marked.{MayNote}

-- the recorder takes the entry, and the images of which its status speaks are of the run
pub record Fits (n : ℕ) (g : List Entry) (e : Entry) : Type 0 where
  pub run : FitsRun n g e
  pub spoken : (j : ℕ) → Within j (speaks_by n g e.image.0 e.event.ask e.event.reply) → IsOneOf n j

-- each entry fits where it stands
abbrev pub AllFit : ℕ → List Entry → Type 0
AllFit n t = (x : Stands t) → Fits n x.before x.event

-- each entry may be noted where it stands
abbrev pub AllNoted : ℕ → List Entry → Type 0
AllNoted n t = (x : Stands t) → MayNote n x.before x.event

-- these counts cover the present segments of these images
pub record TellsOf (n : ℕ) (g : List Entry) (images : List ℕ) (told : Option (List ℕ)) : Type 0 where
  pub sized : IsClockOf n told
  pub covers : Covers (edges n) g (map (present (view n) g) images) (count_of (counts_of told))
