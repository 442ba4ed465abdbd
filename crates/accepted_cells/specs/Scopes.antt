-- Scopes whose coarrays are declared ones of their types.
use Rattle.std.specs.Prelude.{ℕ, ◌≡◌, true, List, Option, Some, None, slice_get}
use Rattle.checked_tree.specs.declared.data.DataType.{DataType}
use Rattle.checked_tree.specs.declared.data.DataType.TheVariants.{Intrinsic, Event, Lock}
use Rattle.checked_tree.specs.declared.data.Object.{Object}
use Rattle.checked_tree.specs.declared.data.Object.TheVariants as objects
use Rattle.rule_definitions.specs.Names
use Rattle.rule_definitions.specs.Names.{Scope, Symbol, ConstantSymbol, denotes}
use Rattle.object_rules.specs.Cells.{Declared}
use Rattle.object_rules.specs.MemoryRules.{holds, is_lock, is_event}
use Rattle.cell_statements.specs.Typed.{is_of}

module _ (coarrays : List Declared) where
  -- an object of this type is a declared coarray of locks or events, where it is of these (ISO/IEC 1539-1:2018,
  -- 16.10.2.10, 16.10.2.19), and a coarray of an intrinsic type is a declared one of its kind (7.4)
  abbrev pub IsOf : DataType → Object → Type 0
  IsOf Lock (objects.Coarray n) = holds is_lock (slice_get coarrays n) ≡ true
  IsOf Lock (objects.Local l) = ⊥
  IsOf Lock (objects.Constant n) = ⊥
  IsOf Event (objects.Coarray n) = holds is_event (slice_get coarrays n) ≡ true
  IsOf Event (objects.Local l) = ⊥
  IsOf Event (objects.Constant n) = ⊥
  IsOf (Intrinsic k) (objects.Coarray n) = holds (is_of k) (slice_get coarrays n) ≡ true
  IsOf y o = Unit {0}

  abbrev pub IsOfIfTyped : Option DataType → Object → Type 0
  IsOfIfTyped None o = Unit {0}
  IsOfIfTyped (Some y) o = IsOf y o

  -- each variable of the scope is so, and no constant is of these types
  pub record AreHeld (s : Scope) : Type 0 where
    pub variables : (n : List ℕ) (x : Symbol) → denotes s n ≡ Some (Names.variable x) → IsOfIfTyped x.of_type x.object
    pub constants : (n : List ℕ) (x : ConstantSymbol) → denotes s n ≡ Some (Names.constant x) → (m : ℕ) → IsOfIfTyped x.of_type (objects.Constant m)
