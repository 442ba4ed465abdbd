-- The walk against what an evaluation comes to: where it stands at an ask, and where it goes on.
use Rattle.std.specs.Prelude.{ℕ, ◌≡◌, ℤ, List, [], ◌∷◌, Option}
use Rattle.trace_theory.specs.Machines as machine
use Rattle.trace_theory.specs.Machines.{asks}
use Rattle.caf_events.specs.declared.reply.Reply.{Reply}
use Rattle.caf_events.specs.declared.reply.FormedTeam.{FormedTeam}
use Rattle.walk_theory.specs.Syntax.{Parts, Steps}
use Rattle.walk_theory.specs.Walks.{Task, Config, eval, to, step, after_loop, from_loop, from_back}
use Rattle.image_acts.specs.Acts.{Act}
use Rattle.image_acts.specs.Core.{Core}
use Rattle.image_acts.specs.Meaning.{image_language}
use Rattle.direct_meaning.specs.States.{State, state_of, with_state}
use Rattle.direct_meaning.specs.Outcomes.{Outcome, done, faults as faulty, asks as asked, over, unsaid, Does}
use Rattle.direct_meaning.specs.Told.{told, ComesBy}
use Rattle.direct_meaning.specs.Statements.{Control, onward, exits, cycles, returns}
use Rattle.direct_agreement.specs.Agreeing.{Agrees}
use Rattle.direct_hidden.specs.Hiding.{with_hidden, SameFrame, IsBlind}

-- What a core of the walk has beside its stack and a state: hidden cells behind the frame's variables, the round of its
-- last arrival, and teams that were formed and aren't noted yet.
pub record Beside : Type 0 where
  pub hidden : List ℤ
  pub round : Option ℕ
  pub formed : List FormedTeam

-- the core with this state, and with the stack of c
abbrev pub core_of : Core → Beside → State → Core
core_of c b s = record (with_state (with_hidden b.hidden s) c) { round = b.round; formed = b.formed }

-- what is left to do where execution goes on
abbrev pub behind : Control → List (Task Act) → List (Task Act)
behind onward ts = ts
behind (exits k) ts = after_loop k ts
behind (cycles k) ts = from_loop k ts
behind returns ts = from_back ts

-- the walk stands in this state, but for hidden cells
abbrev pub Shows : State → Config Act Core → Type 0
Shows s c = (hs : List ℤ) × (state_of c.core ≡ with_hidden hs s)

module _ (procedures : ℕ → Steps Act) (limit : ℕ) where
  -- the walk says and hears what an evaluation comes to, and stands where it says that; and comes to such an end
  abbrev pub Walks : {X : Type 0} → (ends : X → State → Config Act Core → Type 0) → Outcome (X × State) → Config Act Core → Type 0
  Walks ends (done p) c = (d : Config Act Core) × ComesBy procedures limit c d × ends p.0 p.1 d
  Walks ends (faulty k l s) c =
      (d : Config Act Core) × ComesBy procedures limit c d × Shows s d × (n : ℕ) × (e : Core) × (step image_language procedures limit d ≡ asks (image_language.fault k) l (λ r. to [] e n))
  Walks ends (asked a l s f) c =
      (d : Config Act Core) × ComesBy procedures limit c d × Shows s d × (g : Reply → Config Act Core) × (step image_language procedures limit d ≡ asks a l g) × ((r : Reply) → Walks ends (f r) (g r))
  Walks ends (over s) c = (d : Config Act Core) × ComesBy procedures limit c d × Shows s d × (step image_language procedures limit d ≡ machine.over)
  Walks ends unsaid c = Unit {0}

-- where the acts of a statement agree with what it does, the walk says what it comes to, and leaves the hidden cells
abbrev pub PartsLaw : Type 0
PartsLaw = (procedures : ℕ → Steps Act) (limit : ℕ) (lay : Control × ℕ → State → Core) (m : Does (Control × ℕ)) (p : Parts Act) (l n : ℕ)
    (ts : List (Task Act)) (c : Core) (b : Beside) (z : State)
    → IsBlind m → Agrees lay (m l (with_hidden b.hidden z)) (told p l (core_of c b z))
    → Walks procedures limit (λ q y d. SameFrame z y × (d ≡ to ts (lay q (with_hidden b.hidden y)) n)) (m l z) (to (eval l p ∷ ts) (core_of c b z) n)
