-- Hidden cells: in the walk they stand behind the variables of a frame. Evaluations to which they mean nothing.
use Rattle.std.specs.Prelude.{ℕ, ◌≡◌, ℤ, List, ◌++◌, length}
use Rattle.caf_events.specs.declared.reply.Reply.{Reply}
use Rattle.direct_meaning.specs.States.{State}
use Rattle.direct_meaning.specs.Outcomes.{Outcome, done, faults, asks, over, unsaid, Does}

-- the state with these cells behind the variables of its frame
abbrev pub with_hidden : List ℤ → State → State
with_hidden hs s = record s { frame = record s.frame { cells = s.frame.cells ++ hs } }

-- a frame with as many variables, which began with as many evaluation cells in use
abbrev pub SameFrame : State → State → Type 0
SameFrame s z = (length z.frame.cells ≡ length s.frame.cells) × (z.frame.base ≡ s.frame.base)

-- The same asks, and for each reply the same value, fault or end, from s and from s with these hidden cells, which
-- stay; nothing is claimed where nothing is said.
module _ {X : Type 0} (hs : List ℤ) (s : State) where
  abbrev pub Alike : (plain hidden : Outcome (X × State)) → Type 0
  Alike (done p) o = (o ≡ done (p.0, with_hidden hs p.1)) × SameFrame s p.1
  Alike (faults k l z) o = o ≡ faults k l (with_hidden hs z)
  Alike (asks a l z f) o = (g : Reply → Outcome (X × State)) × (o ≡ asks a l (with_hidden hs z) g) × ((r : Reply) → Alike (f r) (g r))
  Alike (over z) o = o ≡ over (with_hidden hs z)
  Alike unsaid o = Unit {0}

-- hidden cells mean nothing to an evaluation
abbrev pub IsBlind : {X : Type 0} → Does X → Type 0
IsBlind m = (hs : List ℤ) (l : ℕ) (s : State) → Alike hs s (m l s) (m l (with_hidden hs s))
