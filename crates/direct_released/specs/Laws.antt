-- What is claimed of whole statements.
use Rattle.std.specs.Prelude.{ℕ, ◌≡◌, List}
use Rattle.walk_theory.specs.Syntax.{Parts, end_parts, Form, simple}
use Rattle.checked_tree.specs.Statements as s
use Rattle.image_acts.specs.Acts.{Act}
use Rattle.image_acts.specs.Core.{Core}
use Rattle.tree_meaning.specs.Environment.{Environment}
use Rattle.tree_meaning.specs.Forms as walk
use Rattle.direct_meaning.specs.States.{State, state_of, with_state}
use Rattle.direct_meaning.specs.Outcomes.{Does}
use Rattle.direct_meaning.specs.Told.{told}
use Rattle.direct_meaning.specs.Values.{Value}
use Rattle.direct_meaning.specs.Expressions.{Passed}
use Rattle.direct_meaning.specs.Statements.{Control, form}
use Rattle.direct_agreement.specs.Agreeing.{Agrees, HasSpare}
use Rattle.direct_laws.specs.Laws.{IsCovered, OptionWithin}
use Rattle.direct_statements.specs.Laws.{IsAssigned}
use Rattle.direct_output.specs.Laws.{AreItems, HasLines}

-- a statement leaves the state alone; where execution goes on is said beside it
abbrev pub put_control : Core → Control × ℕ → State → Core
put_control c q z = with_state z c

-- no evaluation cell is in use but those of the callers
abbrev pub IsFree : Core → Type 0
IsFree c = c.used ≡ c.frame.base

-- the parts of a statement that is simple
abbrev pub parts_in : Form Act → Parts Act
parts_in (simple p) = p
parts_in f = end_parts

-- the statements for which the law is proved: assignments, PRINT, STOP, ERROR STOP and FAIL IMAGE
abbrev pub IsSimple : s.StatementForm → Core → Type 0
IsSimple (s.assign d type rank x) c = IsCovered x × IsAssigned d rank
IsSimple (s.print f xs) c = AreItems xs × HasLines c xs
IsSimple (s.stop code) c = OptionWithin 64 code
IsSimple (s.error_stop code) c = OptionWithin 64 code
IsSimple s.fail_image c = Unit {0}
IsSimple f c = ⊥

-- the parts of a statement in the walk do what the statement does, and leave no evaluation cell in use
abbrev pub StatementLaw : Type 0
StatementLaw = (limit : ℕ) (e : Environment) (calls : ℕ → List Passed → Does Value) (f : s.StatementForm) (l n : ℕ) (c : Core)
    → HasSpare c → IsFree c → IsSimple f c → Agrees (put_control c) (form limit e calls l f n l (state_of c))
    (told (parts_in (walk.form e l f)) l c)
