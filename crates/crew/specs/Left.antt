-- What a crew leaves of a run where no step ended it: images that have ended or wait.
use Rattle.std.specs.Prelude.{ℕ, ◌≡◌, ◌++◌, Bool, true, false, List, [], Some, length, replicate}
use Rattle.caf_base.specs.declared.place.Place.{Place}
use Rattle.caf_base.specs.declared.place.Place.TheVariants.{Memory, Board, Own}
use Rattle.caf_events.specs.declared.ask.Ask.{Ask}
use Rattle.caf_events.specs.declared.event.Entry.{Entry}
use Rattle.caf_events.specs.Asks.{place_of}
use Rattle.caf_events.specs.Walkers.{AsksNext}
use Rattle.trace_theory.specs.Entries.{of}
use Rattle.core_runs.specs.Lists.{image_of, list_at}
use Rattle.core_runs.specs.Moments.{Rules, Moment, item_at, history_there, memory_ready_at}
use Rattle.crew.specs.Crews.{LastEnds}

-- no step has been made
pub record HasNoStep {C M B : Type 0} (m : Moment C M B) : Type 0 where
  pub events : m.events ≡ replicate (length m.events) []
  pub histories : m.histories ≡ replicate (length m.histories) []
  pub board : m.board_history ≡ []

module _ {C M B : Type 0} (r : Rules C M B) (m : Moment C M B) where
  -- whether the object at a place was ready for an ask of image i after this history; the image itself always is
  abbrev pub was_ready : ℕ → Ask → Place → List Entry → Bool
  was_ready i a (Memory owner) h = memory_ready_at r h i a (item_at m.memories owner.0)
  was_ready i a Board h = r.board_ready m.board h i a
  was_ready i a Own h = true

  -- the object of an ask of image i wasn't ready for it after a beginning of its history that has all the image's
  -- entries there
  pub record IsHeldBack (i : ℕ) (a : Ask) : Type 0 where
    pub seen : List Entry
    pub rest : List Entry
    pub front : history_there m (place_of a) ≡ seen ++ rest
    pub mine : of image_of i seen ≡ of image_of i (history_there m (place_of a))
    pub refused : was_ready i a (place_of a) seen ≡ false

  -- where no image's last step ends the run, each image that hasn't ended was held back with its next ask
  abbrev pub AreLeft : Type 0
  AreLeft = ((i : ℕ) → LastEnds (list_at m.events i) → ⊥) → (i : ℕ) (c : C) (a : Ask) → item_at m.configs i ≡ Some c → AsksNext (r.step c) a → IsHeldBack i a
