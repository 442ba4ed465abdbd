-- What is set aside for an image's next step.
use Rattle.std.specs.Prelude.{ℕ, ◌≡◌, ◌<◌, ◌+◌, max, IsTrue, [], ◌∷◌, ◌++◌, vec_len, vec_capacity}
use Rattle.caf_base.specs.declared.place.Place.{Place}
use Rattle.caf_base.specs.declared.place.Place.TheVariants.{Own}
use Rattle.caf_events.specs.declared.object.Object as objects
use Rattle.caf_events.specs.declared.walker.Walker as walker
use Rattle.caf_events.specs.declared.ask.Ask.{Ask}
use Rattle.caf_events.specs.declared.reply.Reply.{Reply}
use Rattle.caf_events.specs.declared.reply.Reply.TheVariants as replies
use Rattle.caf_events.specs.declared.event.Event.{Event}
use Rattle.caf_events.specs.declared.exchange.Exchange.{Exchange}
use Rattle.caf_events.specs.Asks.{place_of}
use Rattle.caf_events.specs.Histories.{last_stamp_of}
use Rattle.caf_events.specs.Walkers.{AsksNext, IsAtLine, Continues}
use Rattle.trace_theory.specs.Machines.{Move, asks, goes, over}
use Rattle.image_core.specs.declared.run.ImageRun.{ImageRun}
use Rattle.image_core.specs.declared.prepared.Prepared.{Prepared}
use Rattle.image_core.specs.declared.prepared.Prepared.TheVariants as prepareds
use Rattle.core_runs.specs.Lists.{entry, last_of}

-- the next move of an image
abbrev pub move_of : {M : Type 0} (walks : walker.Ghosts M) → ImageRun M → Move walks.Config Ask Reply
move_of walks r = walks.step (walks.config r.machine)

-- the image has room for its next event, and its machine for what the reply brings
pub record HasRoom {M : Type 0} (walks : walker.Ghosts M) (r : ImageRun M) : Type 0 where
  pub events : vec_len r.events < vec_capacity r.events
  pub machine : walks.has_room r.machine

-- the object is ready for the ask of image i and has room for its step; what is set aside is the ask with the reply
-- that is due
pub record IsServed {O : Type 0} (object : objects.Ghosts O) (i : ℕ) (o : O) (ask : Ask) (told : Exchange) : Type 0 where
  pub ready : IsTrue (object.ready_after (object.made o) (object.history o) i ask)
  pub room : object.has_room o i ask
  pub told_is : told ≡ record { ask = ask; reply = object.reply_after (object.made o) (object.history o) i ask }

-- what is set aside is the next ask, for which this object is ready
abbrev pub IsServedNext : {O C : Type 0} (object : objects.Ghosts O) → Move C Ask Reply → ℕ → O → Prepared → Type 0
IsServedNext object move i o prepareds.Nothing = ⊥
IsServedNext object move i o (prepareds.Own told) = ⊥
IsServedNext object move i o (prepareds.Served ask told) = AsksNext move ask × IsServed object i o ask told

-- one step of an image at an object: one event at the end of both lists, with the stamp and the reply that were due
pub record StepsAt {M O : Type 0} (walks : walker.Ghosts M) (object : objects.Ghosts O) (r r' : ImageRun M) (o o' : O) (e : Event) : Type 0 where
  pub asked : AsksNext (move_of walks r) e.ask
  pub line : IsAtLine (move_of walks r) e.line
  pub ready : IsTrue (object.ready_after (object.made o) (object.history o) r.image.0 e.ask)
  pub reply : e.reply ≡ object.reply_after (object.made o) (object.history o) r.image.0 e.ask
  pub stamp : e.stamp ≡ max (last_of r.events.items) (last_stamp_of (object.history o)) + 1
  pub goes_on : Continues walks.step (move_of walks r) e.reply (walks.config r'.machine)
  pub events : r'.events.items ≡ r.events.items ++ e ∷ []
  pub made_same : object.made o' ≡ object.made o
  pub history_more : object.history o' ≡ object.history o ++ entry r.image.0 e ∷ []

-- what is set aside is the next ask, which the image makes by itself
abbrev pub IsOwnNext : {C : Type 0} → Move C Ask Reply → Prepared → Type 0
IsOwnNext move prepareds.Nothing = ⊥
IsOwnNext move (prepareds.Own told) = AsksNext move told.ask × (place_of told.ask ≡ Own) × (told.reply ≡ replies.Done)
IsOwnNext move (prepareds.Served ask told) = ⊥

-- the place of the step that is set aside
abbrev pub place_aside : Prepared → Place
place_aside prepareds.Nothing = Own
place_aside (prepareds.Own told) = Own
place_aside (prepareds.Served ask told) = place_of ask

-- one step that an image makes by itself: one event at the end of its list
pub record StepsAlone {M : Type 0} (walks : walker.Ghosts M) (r r' : ImageRun M) (e : Event) : Type 0 where
  pub asked : AsksNext (move_of walks r) e.ask
  pub line : IsAtLine (move_of walks r) e.line
  pub reply : e.reply ≡ replies.Done
  pub stamp : e.stamp ≡ last_of r.events.items + 1
  pub goes_on : Continues walks.step (move_of walks r) e.reply (walks.config r'.machine)
  pub events : r'.events.items ≡ r.events.items ++ e ∷ []

-- the next move is an ask at this place
abbrev pub AsksAt : {C : Type 0} → Place → Move C Ask Reply → Type 0
AsksAt q (goes c) = ⊥
AsksAt q (asks a l k) = place_of a ≡ q
AsksAt q over = ⊥
