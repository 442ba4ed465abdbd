-- A run at a moment, and its next steps.
use Rattle.std.specs.Prelude.{ℕ, zero, suc, ◌≡◌, ◌+◌, max, Bool, true, false, IsTrue, List, [], ◌∷◌, ◌++◌, Option, Some, None, slice_get, slice_set}
use Rattle.caf_base.specs.declared.place.Place.{Place}
use Rattle.caf_base.specs.declared.place.Place.TheVariants.{Memory, Board, Own}
use Rattle.caf_events.specs.declared.object.Object as object
use Rattle.caf_events.specs.declared.walker.Walker as walker
use Rattle.caf_events.specs.declared.ask.Ask.{Ask}
use Rattle.caf_events.specs.declared.reply.Reply.{Reply}
use Rattle.caf_events.specs.declared.reply.Reply.TheVariants as replies
use Rattle.caf_events.specs.declared.event.Event.{Event}
use Rattle.caf_events.specs.declared.event.Entry.{Entry}
use Rattle.caf_events.specs.Asks.{place_of}
use Rattle.caf_events.specs.Histories.{last_stamp_of}
use Rattle.caf_events.specs.Walkers.{IsOver, AsksNext, IsAtLine, Continues}
use Rattle.trace_theory.specs.Machines.{Move, asks, goes, over, Rests}
use Rattle.core_runs.specs.Lists.{list_at, entry, last_of}

-- how the images go on and with which replies they can, and how the memories and the board serve them
pub record Rules (C M B : Type 0) : Type 1 where
  pub step : C → Move C Ask Reply
  pub hears : C → Reply → Type 0
  pub memory_ready : M → List Entry → ℕ → Ask → Bool
  pub memory_reply : M → List Entry → ℕ → Ask → Reply
  pub board_ready : B → List Entry → ℕ → Ask → Bool
  pub board_reply : B → List Entry → ℕ → Ask → Reply

-- the rules of a run from those of its machines, its memories and its board
abbrev pub rules : {M O B : Type 0} (walks : walker.Ghosts M) (memory : object.Ghosts O) (control : object.Ghosts B) → Rules walks.Config memory.Made control.Made
rules walks memory control = record {
  step = walks.step;
  hears = walks.hears;
  memory_ready = memory.ready_after;
  memory_reply = memory.reply_after;
  board_ready = control.ready_after;
  board_reply = control.reply_after;
}

-- where each image stands and the events that it made, and what each object was made with and its history
pub record Moment (C M B : Type 0) : Type 0 where
  pub configs : List C
  pub events : List (List Event)
  pub memories : List M
  pub histories : List (List Entry)
  pub board : B
  pub board_history : List Entry

-- the item of number n, counted from 1; none has the number 0
abbrev pub item_at : {A : Type 0} → List A → ℕ → Option A
item_at xs zero = None
item_at xs (suc k) = slice_get xs k

-- the history of the object at a place; the image itself has none
abbrev pub history_there : {C M B : Type 0} → Moment C M B → Place → List Entry
history_there m (Memory owner) = list_at m.histories owner.0
history_there m Board = m.board_history
history_there m Own = []

-- whether a memory is ready, where the run has it
abbrev pub memory_ready_at : {C M B : Type 0} → Rules C M B → List Entry → ℕ → Ask → Option M → Bool
memory_ready_at r h i a None = false
memory_ready_at r h i a (Some made) = r.memory_ready made h i a

-- the reply of a memory, where the run has it
abbrev pub memory_reply_at : {C M B : Type 0} → Rules C M B → List Entry → ℕ → Ask → Option M → Reply
memory_reply_at r h i a None = replies.Done
memory_reply_at r h i a (Some made) = r.memory_reply made h i a

-- whether an ask of an image can come now: at a memory that the run hasn't it never can, at its own place it always can
abbrev pub ready_there : {C M B : Type 0} → Rules C M B → Moment C M B → ℕ → Ask → Place → Bool
ready_there r m i a (Memory owner) = memory_ready_at r (list_at m.histories owner.0) i a (item_at m.memories owner.0)
ready_there r m i a Board = r.board_ready m.board m.board_history i a
ready_there r m i a Own = true

-- the reply that is due now
abbrev pub reply_there : {C M B : Type 0} → Rules C M B → Moment C M B → ℕ → Ask → Place → Reply
reply_there r m i a (Memory owner) = memory_reply_at r (list_at m.histories owner.0) i a (item_at m.memories owner.0)
reply_there r m i a Board = r.board_reply m.board m.board_history i a
reply_there r m i a Own = replies.Done

-- whether an image's next move is an ask that can come now
abbrev pub can_move : {C M B : Type 0} → Rules C M B → Moment C M B → ℕ → Move C Ask Reply → Bool
can_move r m i (goes c) = false
can_move r m i (asks a l k) = ready_there r m i a (place_of a)
can_move r m i over = false

-- the same of where an image stands, if it is one of the run
abbrev pub can_move_from : {C M B : Type 0} → Rules C M B → Moment C M B → ℕ → Option C → Bool
can_move_from r m i None = false
can_move_from r m i (Some c) = can_move r m i (r.step c)

-- whether the image of a number can step now
abbrev pub can_step : {C M B : Type 0} → Rules C M B → Moment C M B → ℕ → Bool
can_step r m i = can_move_from r m i (item_at m.configs i)

-- the image that stands here has ended, if it is one of the run
abbrev pub HasEndedFrom : {C M B : Type 0} → Rules C M B → Option C → Type 0
HasEndedFrom r None = ⊥
HasEndedFrom r (Some c) = IsOver (r.step c)

-- the image of a number has ended: it stopped, failed or made a step that ends the run
abbrev pub HasEnded : {C M B : Type 0} → Rules C M B → Moment C M B → ℕ → Type 0
HasEnded r m i = HasEndedFrom r (item_at m.configs i)

-- the event that image i makes next: its next ask, which can come now, with the reply and the stamp that are due
pub record IsNextEvent {C M B : Type 0} (r : Rules C M B) (m : Moment C M B) (i : ℕ) (c : C) (e : Event) : Type 0 where
  pub asked : AsksNext (r.step c) e.ask
  pub line : IsAtLine (r.step c) e.line
  pub ready : IsTrue (ready_there r m i e.ask (place_of e.ask))
  pub reply : e.reply ≡ reply_there r m i e.ask (place_of e.ask)
  pub stamp : e.stamp ≡ max (last_of (list_at m.events i)) (last_stamp_of (history_there m (place_of e.ask))) + 1

-- the item of number n replaced
abbrev pub with_item : {A : Type 0} → List A → ℕ → A → List A
with_item xs zero x = xs
with_item xs (suc k) x = slice_set xs k x

-- the memories' histories with one more entry at a place
abbrev pub histories_with : Place → List (List Entry) → Entry → List (List Entry)
histories_with (Memory owner) hs x = with_item hs owner.0 (list_at hs owner.0 ++ x ∷ [])
histories_with Board hs x = hs
histories_with Own hs x = hs

-- the board's history with one more entry at a place
abbrev pub board_with : Place → List Entry → Entry → List Entry
board_with (Memory owner) h x = h
board_with Board h x = h ++ x ∷ []
board_with Own h x = h

-- image i makes the event e: it stands at its list's end and at the end of its object's history, and nowhere else
pub record Steps {C M B : Type 0} (r : Rules C M B) (m : Moment C M B) (i : ℕ) (e : Event) (m' : Moment C M B) : Type 0 where
  pub from : C
  pub to : C
  pub stands : item_at m.configs i ≡ Some from
  pub due : IsNextEvent r m i from e
  pub goes_on : Continues r.step (r.step from) e.reply to
  pub rests : Rests (r.step to)
  pub configs : m'.configs ≡ with_item m.configs i to
  pub events : m'.events ≡ with_item m.events i (list_at m.events i ++ e ∷ [])
  pub memories : m'.memories ≡ m.memories
  pub histories : m'.histories ≡ histories_with (place_of e.ask) m.histories (entry i e)
  pub board : m'.board ≡ m.board
  pub board_history : m'.board_history ≡ board_with (place_of e.ask) m.board_history (entry i e)
