-- Scopes that have the ranks of the program's variables and procedures.
use Rattle.std.specs.Prelude.{ℕ, ◌≤◌, ◌≡◌, true, List, [], ◌∷◌, length, Option, Some, None}
use Rattle.checked_tree.specs.declared.data.DataType.{DataType}
use Rattle.checked_tree.specs.declared.data.DataType.TheVariants.{Event, Lock}
use Rattle.checked_tree.specs.declared.data.Object.{Object}
use Rattle.checked_tree.specs.declared.data.Object.TheVariants as objects
use Rattle.checked_tree.specs.declared.data.Variable.{Variable}
use Rattle.checked_tree.specs.declared.program.Dummy.{Dummy}
use Rattle.checked_tree.specs.Statements.{Procedure}
use Rattle.rule_definitions.specs.Judgements.{item_at}
use Rattle.rule_definitions.specs.Names
use Rattle.rule_definitions.specs.Names.{Scope, Symbol, ConstantSymbol, Interface, denotes, symbol_of, is_declared_role}
use Rattle.tree_meaning.specs.Environment.{rank_in}
use Rattle.made_code.specs.Ranks.{GivesRank, GivesNothing, procedure_at}

-- the dummies of a heading are declared, each with the rank of its variable
abbrev pub AreDummies : List Variable → List Symbol → List Dummy → Type 0
AreDummies vs [] qs = Unit {0}
AreDummies vs (d ∷ ds) [] = Unit {0}
AreDummies vs (d ∷ ds) (q ∷ qs) = (is_declared_role d.role ≡ true) × (rank_in vs q.variable ≡ length d.bounds) × AreDummies vs ds qs

-- a function's result has the rank of its variable; a subroutine has none
abbrev pub HasResult : List Variable → Option Symbol → Option ℕ → Type 0
HasResult vs None o = GivesNothing o
HasResult vs (Some x) o = GivesRank vs o (length x.bounds)

-- an interface is that of a procedure
abbrev pub IsInterfaceOf : Interface → Procedure → Type 0
IsInterfaceOf i q = AreDummies q.unit.variables i.dummies q.dummies × HasResult q.unit.variables i.result q.answer

-- a lock or an event is a coarray (16.10.2.10, 16.10.2.19)
abbrev pub IsKept : DataType → Object → Type 0
IsKept Lock (objects.Local l) = ⊥
IsKept Lock (objects.Constant n) = ⊥
IsKept Event (objects.Local l) = ⊥
IsKept Event (objects.Constant n) = ⊥
IsKept y o = Unit {0}

abbrev pub IsKeptIfTyped : Option DataType → Object → Type 0
IsKeptIfTyped None o = Unit {0}
IsKeptIfTyped (Some y) o = IsKept y o

-- no variable and no constant has a rank above 3; the object of a constant is no variable's; locks and events are
-- coarrays; a subroutine has no result
pub record AreRanks (procedures : List Procedure) (s : Scope) : Type 0 where
  pub variables : (n : List ℕ) (x : Symbol) → denotes s n ≡ Some (Names.variable x) → length x.bounds ≤ 3
  pub constants : (n : List ℕ) (x : ConstantSymbol) → denotes s n ≡ Some (Names.constant x) → length x.bounds ≤ 3
  pub apart : (n : ℕ) → symbol_of s (objects.Constant n) ≡ None
  pub kept : (n : List ℕ) (x : Symbol) → denotes s n ≡ Some (Names.variable x) → IsKeptIfTyped x.of_type x.object
  pub kept_constants : (n : List ℕ) (x : ConstantSymbol) → denotes s n ≡ Some (Names.constant x) → (m : ℕ) → IsKeptIfTyped x.of_type (objects.Constant m)
  pub resultless : (n : List ℕ) (k : ℕ) (i : Interface) → denotes s n ≡ Some (Names.subroutine k) → item_at s.interfaces k ≡ Some i → i.result ≡ None
  pub interfaces : (k : ℕ) (i : Interface) → item_at s.interfaces k ≡ Some i → IsInterfaceOf i (procedure_at procedures k)
