-- Decided traces: those of which one run tells what comes of every order.
use Rattle.std.specs.Prelude.{ℕ, pos, ◌≡◌, Bool, true, false, nat_eq, List}
use Rattle.std.specs.Ordering.{int_eq}
use Rattle.trace_theory.specs.Entries.{Each}
use Rattle.caf_events.specs.declared.ask.Ask.{Ask}
use Rattle.caf_events.specs.declared.ask.Ask.TheVariants as asks
use Rattle.caf_events.specs.declared.reply.Reply.{Reply}
use Rattle.caf_events.specs.declared.reply.Reply.TheVariants as replies
use Rattle.caf_events.specs.declared.round.Arriving.{Arriving}
use Rattle.caf_events.specs.declared.round.Arriving.TheVariants as arrivings
use Rattle.caf_events.specs.declared.event.Entry.{Entry}
use Rattle.order_theory.specs.Races.{Cell, Stands}
use Rattle.order_theory.specs.Acts.{posts, creates, deletes}
use Rattle.order_axioms.specs.Views.{edges, act_of}
use Rattle.order_axioms.specs.Touching.{touches}
use Rattle.order_axioms.specs.FirstRaces.{HasNoRace}

-- A team is formed of the initial team alone: then the teams are made, and numbered, in one order (11.6.9).
abbrev pub is_flat : ℕ → Arriving → Bool
is_flat team (arrivings.Form number new_index) = nat_eq team 1
is_flat team arriving = true

-- The ask has a reply that no order changes, where there is no race: it touches its cells or joins its round, and tells
-- neither who came first nor who is still running. Left out are locks, CRITICAL, atomic subroutines, EVENT_QUERY,
-- STOPPED_IMAGES, IMAGE_STATUS, the steps of a failure, and all that ends the run.
abbrev pub is_free : Ask → Reply → Bool
is_free (asks.Read owner span) (replies.Values vs) = true
is_free (asks.Write owner span vs) replies.Done = true
is_free (asks.Create owner coarray cells) reply = true
is_free (asks.Delete owner coarray) reply = true
is_free (asks.Post owner span) (replies.Number status) = int_eq status (pos 0)
is_free (asks.Wait owner span threshold) reply = true
is_free (asks.Arrive team arriving) (replies.Round round) = is_flat team.0 arriving
is_free (asks.Leave team round) reply = true
is_free (asks.Gather team op root kind values) (replies.Round round) = true
is_free (asks.Take team round) reply = true
is_free (asks.Pair images) reply = true
is_free asks.Unpair reply = true
is_free (asks.Failed team) reply = true
is_free (asks.Stop code) reply = true
is_free (asks.Print text) reply = true
is_free asks.Memory reply = true
is_free ask reply = false

-- each event is posted by one image alone: its posts come in that image's order
abbrev pub OnePoster : List Entry → Type 0
OnePoster t = (x y : Stands t) (c : Cell) → act_of x.event ≡ posts c → act_of y.event ≡ posts c → x.event.image.0 ≡ y.event.image.0

-- no event of a coarray that is allocated or deallocated is posted
abbrev pub EventsStay : List Entry → Type 0
EventsStay t =
    (x y : Stands t) (c : Cell) → act_of x.event ≡ posts c
    → (act_of y.event ≡ creates c.owner c.coarray → ⊥) × (act_of y.event ≡ deletes c.owner c.coarray → ⊥)

-- A decided trace of n images: it has no race, each of its replies is free, each of its events has one poster, and no
-- coarray of which an event is posted is allocated or deallocated.
pub record IsDecided (n : ℕ) (t : List Entry) : Type 0 where
  pub no_race : HasNoRace (edges n) touches t
  pub free : Each (λ x. is_free x.event.ask x.event.reply ≡ true) t
  pub one_poster : OnePoster t
  pub events_stay : EventsStay t
