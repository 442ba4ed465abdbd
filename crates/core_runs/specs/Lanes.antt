-- The moments that a run can come to: woven lists, each object served, one lane for each image. They speak of no order
-- in which the steps were made, so that images on threads come to them too.
use Rattle.std.specs.Prelude.{ℕ, ◌≡◌, IsTrue, List, [], length, map, Some}
use Rattle.caf_base.specs.declared.place.Place.TheVariants.{Own}
use Rattle.caf_events.specs.declared.ask.Ask.{Ask}
use Rattle.caf_events.specs.declared.reply.Reply.TheVariants as replies
use Rattle.caf_events.specs.declared.event.Event.{Event}
use Rattle.caf_events.specs.Answers.{Answers}
use Rattle.caf_events.specs.Asks.{place_of}
use Rattle.caf_events.specs.Histories.{Served}
use Rattle.caf_events.specs.Walkers.{AsksNext}
use Rattle.trace_theory.specs.Entries.{Each}
use Rattle.trace_theory.specs.Machines.{WalkTo, Rests}
use Rattle.core_runs.specs.Lists.{said, list_at, IsWoven}
use Rattle.core_runs.specs.Moments.{Rules, Moment, item_at, ready_there, reply_there}
use Rattle.core_runs.specs.Beginnings.{Beginning, IsImage, IsPlace, numbers_to}

-- the events are a walk of the image's program to where it stands, at an ask or its end; each stands at a place of the
-- run and has a reply that answers it, and the image's own are done
pub record IsLane {C M B : Type 0} (r : Rules C M B) (b : Beginning C M B) (i : ℕ) (es : List Event) (c : C) : Type 0 where
  pub walks : WalkTo r.step (b.first i) (map said es) c
  pub rests : Rests (r.step c)
  pub places : Each (λ e. IsPlace b (place_of e.ask)) es
  pub answered : Each (λ e. Answers e.ask e.reply) es
  pub alone : Each (λ e. place_of e.ask ≡ Own → e.reply ≡ replies.Done) es

-- a moment of a run whose rules and programs are as `Fit` says: each image's lane, each object served, and lists that
-- are woven of one run
pub record IsMomentOf {C M B : Type 0} (Fit : Type 0) (r : Rules C M B) (b : Beginning C M B) (m : Moment C M B) : Type 0 where
  pub fit : Fit
  pub count : length m.configs ≡ b.images
  pub event_count : length m.events ≡ b.images
  pub history_count : length m.histories ≡ b.images
  pub memories : m.memories ≡ map b.memory (numbers_to b.images)
  pub board : m.board ≡ b.board
  pub woven : IsWoven m.events m.board_history m.histories
  pub memories_served : (i : ℕ) → IsImage b i → Served (r.memory_ready (b.memory i)) (r.memory_reply (b.memory i)) [] (list_at m.histories i)
  pub board_served : Served (r.board_ready b.board) (r.board_reply b.board) [] m.board_history
  pub lanes : (i : ℕ) (c : C) → item_at m.configs i ≡ Some c → IsLane r b i (list_at m.events i) c

-- a moment of a run, whatever its rules and programs are
abbrev pub IsMoment : {C M B : Type 0} → Rules C M B → Beginning C M B → Moment C M B → Type 0
IsMoment r b m = IsMomentOf (Unit {0}) r b m

-- each image that stands at an ask which can come now can go on with the reply that is due
abbrev pub HearsDue : {C M B : Type 0} → Rules C M B → Moment C M B → Type 0
HearsDue {C} r m =
    (i : ℕ) (c : C) (a : Ask) → item_at m.configs i ≡ Some c → AsksNext (r.step c) a → IsTrue (ready_there r m i a (place_of a)) → r.hears c (reply_there r m i a (place_of a))
