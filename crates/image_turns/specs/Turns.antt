-- What holds of an image that makes its steps at the gates of a run, whatever the other images do meanwhile.
use Rattle.std.specs.Prelude.{ℕ, suc, ◌≡◌, ◌+◌, ◌<◌, ◌≤◌, ◌⊎◌, Bool, true, false, List, ◌∷◌, length, map}
use Rattle.trace_theory.specs.Entries.{Each}
use Rattle.trace_theory.specs.Machines.{Move, WalkTo, Rests}
use Rattle.caf_base.specs.declared.place.Place.TheVariants.{Own}
use Rattle.caf_events.specs.declared.ask.Ask.{Ask}
use Rattle.caf_events.specs.declared.reply.Reply.{Reply}
use Rattle.caf_events.specs.declared.reply.Reply.TheVariants as replies
use Rattle.caf_events.specs.declared.event.Entry.{Entry}
use Rattle.caf_events.specs.declared.event.Event.{Event}
use Rattle.caf_events.specs.declared.walker.Walker as walker
use Rattle.caf_events.specs.Asks.{place_of}
use Rattle.caf_events.specs.Walkers.{AsksNext}
use Rattle.core_runs.specs.Lists.{image_of, key_of, stamp_of, entry, said}
use Rattle.core_runs.specs.Beginnings.{IsThere}
use Rattle.image_core.specs.declared.run.ImageRun.{ImageRun}
use Rattle.image_core.specs.Prepared.{move_of, StepsAlone}
use Rattle.worker_laws.specs.Links.{OfImage, Linked}
use Rattle.turn_gate.specs.Gates.{At}
use Rattle.turn_gate.specs.Known.{Known}
use Rattle.turn_gate.specs.Passes.{Opened}
use Rattle.image_gate.specs.declared.passes.Passes.{Passes}
use Rattle.image_gate.specs.Fabrics.{AreOf}

-- a program that goes on whatever the reply to its ask is
abbrev pub HearsEvery : {C : Type 0} → (C → Move C Ask Reply) → (C → Reply → Type 0) → Type 0
HearsEvery {C} step hears = (c : C) (ask : Ask) (reply : Reply) → AsksNext (step c) ask → hears c reply

-- an image's events as entries
abbrev pub entries : ℕ → List Event → List Entry
entries i es = map (entry i) es

-- an image's passes by the numbers of their objects, from 0: the board's, and then that of each memory
abbrev pub passes_of : Passes → List Known
passes_of p = p.board ∷ p.memories.items

-- what an image has seen of each of so many objects, by its passes, is linked with its events
pub record AreLinked (count i : ℕ) (es : List Event) (passes : List Known) : Type 0 where
  pub events : OfImage image_of key_of stamp_of i count (entries i es)
  pub wide : length passes ≡ count
  pub each : (o : ℕ) (p : Known) → At passes o p → (p.image ≡ i) × Linked image_of key_of stamp_of i o (entries i es) p.seen p.own

-- the events are a walk of a program from c to d, where it is at an ask or over; each stands at a place of a run of n
-- images, and the image's own are done; together with the asks that may still come they are at most so many
pub record HasWalked {C : Type 0} (step : C → Move C Ask Reply) (left : C → ℕ) (n : ℕ) (c : C) (most : ℕ) (es : List Event) (d : C) : Type 0 where
  pub walks : WalkTo step c (map said es) d
  pub rests : Rests (step d)
  pub places : Each (λ e. IsThere n (place_of e.ask)) es
  pub alone : Each (λ e. place_of e.ask ≡ Own → e.reply ≡ replies.Done) es
  pub few : length es + left d ≤ most

-- an image of a run of n images, whose program began at c and makes at most so many steps, with its passes
pub record GoesOn {M : Type 0} (walks : walker.Ghosts M) (n : ℕ) (c : walks.Config) (most : ℕ) (r : ImageRun M) (p : Passes) : Type 0 where
  pub walked : HasWalked walks.step walks.asks_left n c most r.events.items (walks.config r.machine)
  pub linked : AreLinked (suc n) r.image.0 r.events.items (passes_of p)

-- the passes are the image's at the gates of a run
pub record ArePassesOf {M O B : Type 0} (board : Opened B) (memories : List (Opened O)) (r : ImageRun M) (p : Passes) : Type 0 where
  pub image : 0 < r.image.0
  pub passes : AreOf board memories r.image.0 p.board p.memories.items

-- the same image has made no step or some, at the same gates: what held of it goes on to hold
pub record StaysOn {M O B : Type 0} (walks : walker.Ghosts M) (board : Opened B) (memories : List (Opened O)) (r : ImageRun M) (p : Passes) (r' : ImageRun M) (p' : Passes) : Type 0 where
  pub image : r'.image ≡ r.image
  pub passes : ArePassesOf board memories r' p'
  pub goes_on : (c : walks.Config) (most : ℕ) → GoesOn walks (length memories) c most r p → GoesOn walks (length memories) c most r' p'

-- no step was made
pub record MadeNone {M : Type 0} (walks : walker.Ghosts M) (r r' : ImageRun M) : Type 0 where
  pub machine : walks.config r'.machine ≡ walks.config r.machine
  pub events : r'.events.items ≡ r.events.items

-- whether an image made a step, told by its events
pub record HasMade (before after : List Event) (made : Bool) : Type 0 where
  pub some : made ≡ true → length before < length after
  pub none : made ≡ false → after ≡ before

-- no step was made, or one that the image makes by itself
abbrev pub MadeAlone : {M : Type 0} (walks : walker.Ghosts M) → ImageRun M → ImageRun M → Type 0
MadeAlone walks r r' =
    MadeNone walks r r'
    ⊎ ((e : Event) × StepsAlone walks r r' e × Rests (move_of walks r') × (walks.asks_left (walks.config r'.machine) < walks.asks_left (walks.config r.machine)))
