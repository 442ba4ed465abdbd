-- What an evaluation comes to: a value, a run fault, or an ask and what each reply leads to.
use Rattle.std.specs.Prelude.{ℕ, Bool, cond, Option, None, Some}
use Rattle.caf_events.specs.declared.ask.Ask.{Ask}
use Rattle.caf_events.specs.declared.reply.Reply.{Reply}
use Rattle.walk_theory.specs.Terms.{Found, found, at_fault}
use Rattle.direct_meaning.specs.States.{State}

-- asks and faults are at a line, and the state in which they come is told with them; `unsaid` stands where a program
-- that broke a rule of the language would come to
pub data Outcome (X : Type 0) : Type 0 where
  done : X → Outcome X
  faults : ℕ → (line : ℕ) → State → Outcome X
  asks : Ask → (line : ℕ) → State → (Reply → Outcome X) → Outcome X
  over : State → Outcome X  -- the image has ended
  unsaid : Outcome X

-- the one, and then what is made of it
abbrev pub and_then : {X Y : Type 0} → Outcome X → (X → Outcome Y) → Outcome Y
and_then (done x) f = f x
and_then (faults k l z) f = faults k l z
and_then (asks a l z g) f = asks a l z (λ r. and_then (g r) f)
and_then (over z) f = over z
and_then unsaid f = unsaid

-- An evaluation: at the line of its statement, from the state that it finds, to what it gives and the state that it
-- leaves.
abbrev pub Does : Type 0 → Type 0
Does X = (line : ℕ) → State → Outcome (X × State)

abbrev pub giving : {X : Type 0} → X → Does X
giving x l s = done (x, s)

abbrev pub fault : {X : Type 0} → ℕ → Does X
fault k l s = faults k l s

abbrev pub nothing_said : {X : Type 0} → Does X
nothing_said l s = unsaid

infixr 30 ◌▹◌
-- the one, and then what is made of it; the order of the clauses is the order of evaluation
abbrev pub ◌▹◌ : {X Y : Type 0} → Does X → (X → Does Y) → Does Y
m ▹ f = λ l s. and_then (m l s) (λ p. f p.0 l p.1)

abbrev pub asking : Ask → Does Reply
asking a l s = asks a l s (λ r. done (r, s))

-- goes on where a test holds, else this fault
abbrev pub unless : {X : Type 0} → ℕ → Bool → Does X → Does X
unless k test m = cond test m (fault k)

-- what was found, or its fault
abbrev pub of_found : {X : Type 0} → Found X → Does X
of_found (found x) = giving x
of_found (at_fault k) = fault k

-- what is there; nothing is said where it isn't
abbrev pub of_some : {X : Type 0} → Option X → Does X
of_some None = nothing_said
of_some (Some x) = giving x

-- what is there; this fault where it isn't
abbrev pub or_fault : {X : Type 0} → ℕ → Option X → Does X
or_fault k None = fault k
or_fault k (Some x) = giving x

abbrev pub changing : (State → State) → Does (Unit {0})
changing f l s = done (tt, f s)
