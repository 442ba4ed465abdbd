-- What the parts of a run mean.
use Rattle.std.specs.Prelude.{ℕ, suc, ◌≡◌, ◌<◌, ◌≤◌, ◌+◌, ◌-◌, ◌^◌, true, false, List, [], ◌∷◌, map, length, replicate, slice_index_or, Some}
use Rattle.caf_base.specs.declared.place.Place.{Place}
use Rattle.caf_base.specs.declared.place.Place.TheVariants.{Memory, Board, Own}
use Rattle.caf_events.specs.declared.object.Object as object
use Rattle.caf_events.specs.declared.walker.Walker as walker
use Rattle.caf_events.specs.declared.ask.Ask.{Ask}
use Rattle.caf_events.specs.declared.reply.Reply.{Reply}
use Rattle.caf_events.specs.declared.reply.Reply.TheVariants as replies
use Rattle.caf_events.specs.declared.event.Event.{Event}
use Rattle.caf_events.specs.declared.exchange.Exchange.{Exchange}
use Rattle.caf_events.specs.Asks.{place_of}
use Rattle.caf_events.specs.Histories.{last_stamp_of}
use Rattle.caf_events.specs.Walkers.{AsksNext}
use Rattle.trace_theory.specs.Machines.{Move}
use Rattle.image_core.specs.declared.run.ImageRun.{ImageRun}
use Rattle.image_core.specs.declared.parts.PartsOf.{PartsOf}
use Rattle.image_core.specs.declared.parts.Ready.{Ready}
use Rattle.image_core.specs.declared.parts.Ready.TheVariants as answers
use Rattle.image_core.specs.declared.prepared.Prepared.{Prepared}
use Rattle.image_core.specs.declared.prepared.Prepared.TheVariants as prepareds
use Rattle.core_runs.specs.Lists.{list_at, last_of}
use Rattle.core_runs.specs.Moments.{Rules, Moment, rules, can_step, HasEnded, item_at, with_item}
use Rattle.core_runs.specs.Beginnings.{Beginning}
use Rattle.core_runs.specs.Kept.{IsKept}
use Rattle.image_core.specs.Prepared.{HasRoom, IsServed, move_of, place_aside}

-- the events of each image
abbrev pub event_lists : {M : Type 0} → List (ImageRun M) → List (List Event)
event_lists images = map (λ r. r.events.items) images

-- how the parts stand at a moment
abbrev pub moment : {M O B : Type 0} (walks : walker.Ghosts M) (memory : object.Ghosts O) (control : object.Ghosts B) → PartsOf M O B → Moment walks.Config memory.Made control.Made
moment walks memory control p = record {
  configs = map (λ r. walks.config r.machine) p.images.items;
  events = event_lists p.images.items;
  memories = map memory.made p.memories.items;
  histories = map memory.history p.memories.items;
  board = control.made p.board;
  board_history = control.history p.board;
}

-- the moment before the first step, of where each image stands and of what each memory and the board were made with
abbrev pub first_moment : {C M B : Type 0} → List C → List M → B → Moment C M B
first_moment configs memories board = record {
  configs = configs;
  events = replicate (length configs) [];
  memories = memories;
  histories = replicate (length memories) [];
  board = board;
  board_history = [];
}

-- what holds of the item at each place of a list, counted from 0
abbrev pub EachAt : {A : Type 0} → (ℕ → A → Type 0) → List A → Type 0
EachAt {A} P xs = (k : ℕ) (x : A) → k < length xs → x ≡ slice_index_or xs k x → P k x

-- the images are numbered from 1
abbrev pub AreNumbered : {M : Type 0} → List (ImageRun M) → Type 0
AreNumbered images = EachAt (λ k r. r.image.0 ≡ suc k) images

-- the sum of a number of each item
abbrev pub total : {A : Type 0} → (A → ℕ) → List A → ℕ
total f [] = 0
total f (x ∷ xs) = f x + total f xs

-- how many steps were made
abbrev pub steps_made : {C M B : Type 0} → Moment C M B → ℕ
steps_made m = total length m.events

-- no stamp is above the number of steps, and the steps that may still come stay far below the last stamp
pub record IsBounded {C M B : Type 0} (left : C → ℕ) (m : Moment C M B) : Type 0 where
  pub images : (i : ℕ) → last_of (list_at m.events i) ≤ steps_made m
  pub memories : (i : ℕ) → last_stamp_of (list_at m.histories i) ≤ steps_made m
  pub board : last_stamp_of m.board_history ≤ steps_made m
  pub few : steps_made m + total left m.configs < 2 ^ 60

-- what every call keeps of the parts: the images are numbered from 1, are not too many, stamps stay far below the last,
-- and the parts stand in a run of their beginning
pub record AreSound {M O B : Type 0} (walks : walker.Ghosts M) (memory : object.Ghosts O) (control : object.Ghosts B) (p : PartsOf M O B) : Type 0 where
  pub few : length p.images.items < 2 ^ 31
  pub numbered : AreNumbered p.images.items
  pub bounded : IsBounded walks.asks_left (moment walks memory control p)
  pub kept : (b : Beginning walks.Config memory.Made control.Made) × IsKept (rules walks memory control) b (moment walks memory control p)

-- the image of a number has fewer asks to come, and no other image's number changed
pub record Spends {C M B : Type 0} (left : C → ℕ) (m : Moment C M B) (i : ℕ) (m' : Moment C M B) : Type 0 where
  pub before : C
  pub after : C
  pub stands : item_at m.configs i ≡ Some before
  pub configs : m'.configs ≡ with_item m.configs i after
  pub falls : left after < left before

-- what is set aside for the image at a place of the list is its next step
module _ {M O B : Type 0} (walks : walker.Ghosts M) (memory : object.Ghosts O) (control : object.Ghosts B) where
  -- the object at this place set the step aside
  abbrev pub IsServedThere : PartsOf M O B → ℕ → Ask → Exchange → Place → Type 0
  IsServedThere p i ask told Own = ⊥
  IsServedThere p i ask told Board = IsServed control i p.board ask told
  IsServedThere p i ask told (Memory owner) =
      (0 < owner.0) × (owner.0 ≤ length p.memories.items) × ((o : O) → o ≡ slice_index_or p.memories.items (owner.0 - 1) o → IsServed memory i o ask told)

  -- this step is set aside for the image
  abbrev pub IsSetAside : PartsOf M O B → ℕ → Move walks.Config Ask Reply → Prepared → Type 0
  IsSetAside p i move prepareds.Nothing = ⊥
  IsSetAside p i move (prepareds.Own told) = AsksNext move told.ask × (place_of told.ask ≡ Own) × (told.reply ≡ replies.Done)
  IsSetAside p i move (prepareds.Served ask told) = AsksNext move ask × IsServedThere p i ask told (place_of ask)

  -- the step of the image at this place is set aside, with room for its event and for what its reply brings
  pub record IsPreparedRun (p : PartsOf M O B) (k : ℕ) (r : ImageRun M) : Type 0 where
    pub room : HasRoom walks r
    pub next : IsSetAside p (suc k) (move_of walks r) r.prepared

  -- the next step of the image at place k, from 0, is set aside
  abbrev pub IsPrepared : PartsOf M O B → ℕ → Type 0
  IsPrepared p k = (r : ImageRun M) → r ≡ slice_index_or p.images.items k r → IsPreparedRun p k r

  -- what is set aside for the image at place j isn't at the object of the next ask of the image at place k
  abbrev pub IsElsewhere : PartsOf M O B → ℕ → ℕ → Type 0
  IsElsewhere p k j =
      (r s : ImageRun M) → r ≡ slice_index_or p.images.items k r → s ≡ slice_index_or p.images.items j s
      → (ask : Ask) → AsksNext (move_of walks r) ask → place_aside s.prepared ≡ place_of ask → place_aside s.prepared ≡ Own

  -- what is set aside for another image stays so, where it isn't at the object of the next ask of the image at place k
  abbrev pub KeepsOthers : PartsOf M O B → ℕ → PartsOf M O B → Type 0
  KeepsOthers p k p' = (j : ℕ) → (k ≡ j → ⊥) → IsElsewhere p k j → IsPrepared p j → IsPrepared p' j

-- what `prepare` answers for the image of a number
abbrev pub AnswersReady : {C M B : Type 0} → Rules C M B → Moment C M B → ℕ → Ready → Type 0
AnswersReady r m i answers.Can = can_step r m i ≡ true
AnswersReady r m i answers.NotYet = (can_step r m i ≡ false) × (HasEnded r m i → ⊥)
AnswersReady r m i answers.Over = HasEnded r m i
