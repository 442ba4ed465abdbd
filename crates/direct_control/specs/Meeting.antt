-- The acts of a statement against what it does, where replies leave something beside the state: the round of the last
-- arrival, and teams that were formed and aren't noted yet.
use Rattle.std.specs.Prelude.{◌≡◌}
use Rattle.caf_events.specs.declared.reply.Reply.{Reply}
use Rattle.image_acts.specs.Core.{Core}
use Rattle.direct_meaning.specs.States.{State, with_state}
use Rattle.direct_meaning.specs.Outcomes.{Outcome, done, faults, asks, over, unsaid}

-- The acts come to what the definition says: the same asks at the same lines, for every reply, the same fault or end,
-- and where it goes on, a core of which this holds.
abbrev pub Meets : {X : Type 0} → (X → State → Core → Type 0) → Outcome (X × State) → Outcome Core → Type 0
Meets holds (done p) o = (d : Core) × (o ≡ done d) × holds p.0 p.1 d
Meets holds (faults k l z) o = o ≡ faults k l z
Meets holds (asks a l z f) o = (g : Reply → Outcome Core) × (o ≡ asks a l z g) × ((r : Reply) → Meets holds (f r) (g r))
Meets holds (over z) o = o ≡ over z
Meets holds unsaid o = Unit {0}

-- the core with this state and with the stack of c
abbrev pub Lies : {X : Type 0} → Core → X → State → Core → Type 0
Lies c x z d = d ≡ record (with_state z c) { round = d.round; formed = d.formed }
