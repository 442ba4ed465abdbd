-- Scopes in which each name that stands for something is known: in a program without breaks all are.
use Rattle.std.proofs.Common.{◌≡◌, ℕ, Bool, true, false, List, [], ◌∷◌, refl}
use Rattle.std.specs.Prelude.{◌&&◌, Option, Some, None}
use Rattle.checked_tree.specs.declared.data.DataType.{DataType}
use Rattle.checked_tree.specs.declared.data.DataType.TheVariants.{Team}
use Rattle.checked_tree.specs.declared.data.Object.{Object}
use Rattle.checked_tree.specs.declared.data.Object.TheVariants as objects
use Rattle.rule_definitions.specs.Judgements.{is_there, item_at}
use Rattle.rule_definitions.specs.Names
use Rattle.rule_definitions.specs.Names.{Scope, Symbol, ConstantValue, KnownBounds, Interface, Meaning, denotes}

-- a variable is no constant, and a team is a local one
abbrev pub is_placed : Option DataType → Object → Bool
is_placed y (objects.Local l) = true
is_placed (Some Team) (objects.Coarray n) = false
is_placed y (objects.Coarray n) = true
is_placed y (objects.Constant n) = false

abbrev pub is_known_symbol : Symbol → Bool
is_known_symbol x = is_there x.of_type && is_placed x.of_type x.object

-- an array constant has a rank
abbrev pub is_known_value : List KnownBounds → ConstantValue → Bool
is_known_value ds Names.unknown_value = false
is_known_value ds (Names.scalar_constant v) = true
is_known_value [] (Names.array_constant n) = false
is_known_value (d ∷ ds) (Names.array_constant n) = true

abbrev pub has_type : Option Symbol → Bool
has_type None = false
has_type (Some x) = is_there x.of_type

abbrev pub has_typed_result : Option Interface → Bool
has_typed_result None = false
has_typed_result (Some i) = has_type i.result

abbrev pub is_known : List Interface → Meaning → Bool
is_known is (Names.variable x) = is_known_symbol x
is_known is (Names.constant c) = is_there c.of_type && is_known_value c.bounds c.value
is_known is (Names.subroutine n) = is_there (item_at is n)
is_known is m = true

pub record AreKnown (is : List Interface) (o : Option Meaning) : Type 0 where
  pub known : (m : Meaning) → o ≡ Some m → is_known is m ≡ true

-- what stands for a function of the program has a typed result
pub record IsTypedScope (s : Scope) : Type 0 where
  pub typed : (n : List ℕ) (k : ℕ) → denotes s n ≡ Some (Names.function k) → has_typed_result (item_at s.interfaces k) ≡ true

pub record IsKnownScope (s : Scope) : Type 0 where
  pub known : (n : List ℕ) → AreKnown s.interfaces (denotes s n)

pub and_left : (a b : Bool) → a && b ≡ true → a ≡ true
and_left true true e = refl
and_left true false e = refl
and_left false true e = e
and_left false false e = e

pub and_right : (a b : Bool) → a && b ≡ true → b ≡ true
and_right true true e = refl
and_right true false e = e
and_right false true e = refl
and_right false false e = e

pub no : {A : Type 0} → false ≡ true → A
no e = absurd (false_true e)
  where
    false_true : false ≡ true → ⊥
    false_true e = cc
