-- The walk of a program and its code.
use Rattle.std.specs.Prelude.{ℕ, ◌≡◌, List, []}
use Rattle.trace_theory.specs.Equivalence.{SameWalks}
use Rattle.walk_theory.specs.Language.{Language}
use Rattle.walk_theory.specs.Syntax.{Steps, body_of}
use Rattle.walk_theory.specs.Walks.{Config, step, start}
use Rattle.walk_theory.specs.Code.{Line, State, at_place, code_step}

-- the same core and the same count
abbrev pub SameCore : {A C : Type 0} → Config A C → State C → Type 0
SameCore c d = (d.core ≡ c.core) × (d.count ≡ c.count)

-- The code has the walks of the program with these procedures, the main program first, from this core on: what it asks,
-- at which lines, and with which cores and counts.
abbrev pub HasWalksOf : {A C Q R : Type 0} → Language A C Q R → (answers : Q → R → Type 0) → (last : A) → List (Steps A) → (line limit : ℕ) → C → List (Line A) → Type 0
HasWalksOf L answers last bodies line limit first code =
    SameWalks answers SameCore SameCore (step L (body_of bodies) limit) (start last line first) (code_step L code limit) (at_place 0 [] first 0)
