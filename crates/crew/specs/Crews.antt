-- The images of a crew: what holds of them while they run at the gates of their run, and what they have come to.
use Rattle.std.specs.Prelude.{ℕ, ◌≡◌, ◌⊎◌, ◌++◌, List, [], ◌∷◌}
use Rattle.trace_theory.specs.Entries.{Each}
use Rattle.caf_events.specs.declared.event.Event.{Event}
use Rattle.caf_events.specs.declared.object.Object as objects
use Rattle.caf_events.specs.declared.walker.Walker as walker
use Rattle.caf_events.specs.Events.{EndsRun}
use Rattle.turn_gate.specs.Gates.{At}
use Rattle.turn_gate.specs.Passes.{Opened}
use Rattle.image_turns.specs.Turns.{ArePassesOf, StaysOn}
use Rattle.image_turns.specs.Waits.{Waits}
use Rattle.crew.specs.declared.member.Member.{Member}
use Rattle.crew.specs.declared.member.Worker.{Worker}

-- the last event of an image ends the run
pub record LastEnds (events : List Event) : Type 0 where
  pub before : List Event
  pub last : Event
  pub form : events ≡ before ++ last ∷ []
  pub ends : EndsRun last

-- one of the images made a step that ends the run
pub record SomeEnded {M : Type 0} (members : List (Member M)) : Type 0 where
  pub place : ℕ
  pub member : Member M
  pub at : At members place member
  pub ends : LastEnds member.run.events.items

-- the images of all workers, one worker's after the other's
abbrev pub members_of : {M : Type 0} → List (Worker M) → List (Member M)
members_of [] = []
members_of (w ∷ ws) = w.members.items ++ members_of ws

-- each image's passes are its own
abbrev pub HavePasses : {M O B : Type 0} → Opened B → List (Opened O) → List (Member M) → Type 0
HavePasses board memories members = (j : ℕ) (m : _) → At members j m → ArePassesOf board memories m.run m.passes

-- so are those of all workers
abbrev pub AllHavePasses : {M O B : Type 0} → Opened B → List (Opened O) → List (Worker M) → Type 0
AllHavePasses board memories workers = Each (λ w. HavePasses board memories w.members.items) workers

-- the same images have made no steps or some
abbrev pub GoOn : {M O B : Type 0} → walker.Ghosts M → Opened B → List (Opened O) → List (Member M) → List (Member M) → Type 0
GoOn walks board memories [] [] = Unit {0}
GoOn walks board memories (m ∷ ms) (n ∷ ns) = StaysOn walks board memories m.run m.passes n.run n.passes × GoOn walks board memories ms ns
GoOn walks board memories [] (n ∷ ns) = ⊥
GoOn walks board memories (m ∷ ms) [] = ⊥

module _ {O B : Type 0} (memory : objects.Ghosts O) (control : objects.Ghosts B) (board : Opened B) (memories : List (Opened O)) {M : Type 0} (walks : walker.Ghosts M) where
  -- each image waits or has ended
  abbrev pub AllWait : List (Member M) → Type 0
  AllWait members = (j : ℕ) (m : Member M) → At members j m → Waits memory control board memories walks m.run m.passes

  -- the images are through: one of them made a step that ends the run, or each waits or has ended
  abbrev pub IsThrough : List (Member M) → Type 0
  IsThrough members = SomeEnded members ⊎ AllWait members
