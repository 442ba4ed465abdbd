-- The images' next asks, and which of them are kept.
use Rattle.std.specs.Prelude.{ℕ, ◌≡◌, ◌<◌, ◌≤◌, List, length, Option, Some, None}
use Rattle.caf_base.specs.declared.place.Place.{Place}
use Rattle.caf_events.specs.declared.ask.Ask.{Ask}
use Rattle.caf_events.specs.declared.reply.Reply.{Reply}
use Rattle.caf_events.specs.Asks.{place_of}
use Rattle.caf_events.specs.Walkers.{AsksNext}
use Rattle.core_runs.specs.Moments.{Rules, Moment, item_at}
use Rattle.trace_theory.specs.Machines.{Move}

-- this is the next ask of image i, if it is one of the run
abbrev pub IsNextAsk : {C M B : Type 0} → Rules C M B → Moment C M B → ℕ → Ask → Type 0
IsNextAsk {C} {M} {B} r m i a = (c : C) → item_at m.configs i ≡ Some c → AsksNext (r.step c) a

-- image i asks next at this place, if it asks at all
abbrev pub AsksNextAt : {C M B : Type 0} → Rules C M B → Moment C M B → ℕ → Place → Type 0
AsksNextAt {C} {M} {B} r m i place = (c : C) → item_at m.configs i ≡ Some c → (a : Ask) → AsksNext (r.step c) a → place_of a ≡ place

-- there is a place for each image, and each ask that is kept is its image's next one
pub record AreNextAsks {C M B : Type 0} (r : Rules C M B) (m : Moment C M B) (kept : List (Option Ask)) : Type 0 where
  pub count : length kept ≡ length m.configs
  pub each : (i : ℕ) (a : Ask) → item_at kept i ≡ Some (Some a) → IsNextAsk r m i a

-- the next ask of image i, whose next move this is, is kept
pub record KeepsNext {C : Type 0} (move : Move C Ask Reply) (i : ℕ) (kept : List (Option Ask)) : Type 0 where
  pub low : 0 < i
  pub high : i ≤ length kept
  pub there : item_at kept i ≡ Some None → ⊥
  pub asked : (a : Ask) → item_at kept i ≡ Some (Some a) → AsksNext move a
