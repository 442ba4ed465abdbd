-- What is claimed of statements.
use Rattle.std.specs.Prelude.{ℕ, List}
use Rattle.checked_tree.specs.declared.data.DataType.{DataType}
use Rattle.checked_tree.specs.declared.data.Object.TheVariants as objects
use Rattle.checked_tree.specs.Expressions as t
use Rattle.image_acts.specs.Core.{Core}
use Rattle.tree_meaning.specs.Environment.{Environment}
use Rattle.tree_meaning.specs.Assignments as acts
use Rattle.direct_meaning.specs.States.{State, state_of, with_state}
use Rattle.direct_meaning.specs.Outcomes.{Does}
use Rattle.direct_meaning.specs.Told.{told}
use Rattle.direct_meaning.specs.Values.{Value}
use Rattle.direct_meaning.specs.Expressions.{Passed}
use Rattle.direct_meaning.specs.Statements.{assignment}
use Rattle.direct_agreement.specs.Agreeing.{Agrees, HasSpare}
use Rattle.direct_laws.specs.Laws.{HasDimensions, SubscriptsWithin, SelectorWithin, IsCovered}

-- nothing is left of what was evaluated, but for the state
abbrev pub put_nothing : Core → Unit {0} → State → Core
put_nothing c u z = with_state z c

-- what is assigned to: a variable, or a part of one
abbrev pub IsAssigned : t.Designator → ℕ → Type 0
IsAssigned (t.part (objects.Local v) ss sel) rank = HasDimensions ss rank × SubscriptsWithin 64 ss
IsAssigned (t.part (objects.Constant k) ss sel) rank = Unit {0}
IsAssigned (t.part (objects.Coarray k) ss sel) rank = HasDimensions ss rank × SubscriptsWithin 64 ss × SelectorWithin 64 sel

-- the acts of an assignment do what it means, up to where its evaluation cells are free again
abbrev pub AssignmentLaw : Type 0
AssignmentLaw = (limit : ℕ) (e : Environment) (calls : ℕ → List Passed → Does Value) (d : t.Designator) (type : DataType) (rank : ℕ)
    (x : t.Expression) (l : ℕ) (c : Core)
    → HasSpare c → IsCovered x → IsAssigned d rank
    → Agrees (put_nothing c) (assignment limit e calls d type rank x l (state_of c)) (told (acts.assignment e d type rank x) l c)
