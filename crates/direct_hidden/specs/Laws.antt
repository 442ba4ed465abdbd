-- What is claimed of hidden cells.
use Rattle.std.specs.Prelude.{ℕ, List}
use Rattle.checked_tree.specs.declared.data.DataType.{DataType}
use Rattle.checked_tree.specs.Expressions as t
use Rattle.checked_tree.specs.Statements as s
use Rattle.tree_meaning.specs.Environment.{Environment}
use Rattle.direct_meaning.specs.Outcomes.{Does}
use Rattle.direct_meaning.specs.Values.{Value}
use Rattle.direct_meaning.specs.Expressions.{Passed, value}
use Rattle.direct_meaning.specs.Statements.{assignment, output}
use Rattle.direct_hidden.specs.Hiding.{IsBlind}

-- functions of the program to which they mean nothing
abbrev pub AreBlind : (ℕ → List Passed → Does Value) → Type 0
AreBlind calls = (n : ℕ) (xs : List Passed) → IsBlind (calls n xs)

-- to an expression, to an assignment, to a PRINT
abbrev pub HiddenLaw : Type 0
HiddenLaw = (limit : ℕ) (e : Environment) (calls : ℕ → List Passed → Does Value) → AreBlind calls
    → ((x : t.Expression) → IsBlind (value e calls x))
    × ((d : t.Designator) (type : DataType) (rank : ℕ) (x : t.Expression) → IsBlind (assignment limit e calls d type rank x))
    × ((f : s.Format) (xs : List s.Item) → IsBlind (output limit e calls f xs))
