-- What is no object, by its form.
use Rattle.std.proofs.Common.{◌≡◌, refl, arith, ℕ, ◌≤◌, length, List, [], ◌∷◌}
use Rattle.std.specs.Prelude.{Option, Some, None, cond}
use Rattle.caf_base.specs.declared.value.Kind.TheVariants.{L4}
use Rattle.checked_tree.specs.Expressions as t
use Rattle.checked_tree.specs.ExpressionViews.{expression, subscripts, arithmetic_chain, logic_chain, typed_forms}
use Rattle.checked_tree.specs.declared.data.DataType.{DataType}
use Rattle.checked_tree.specs.declared.data.DataType.TheVariants.{Intrinsic}
use Rattle.checked_tree.specs.declared.data.Object.{Object}
use Rattle.checked_tree.specs.declared.data.Object.TheVariants as objects
use Rattle.checked_tree.specs.declared.expr.Subscript.{Subscript}
use Rattle.checked_tree.specs.declared.expr.ArithmeticOperator.{ArithmeticOperator}
use Rattle.checked_tree.specs.declared.expr.LogicalOperator.{LogicalOperator}
use Rattle.checked_tree.specs.declared.expr.ArithmeticLink.{ArithmeticLink}
use Rattle.checked_tree.specs.declared.expr.LogicLink.{LogicLink}
use Rattle.rule_definitions.specs.IntrinsicFunctions.{allocatable_of, coarray_of, is_allocatable_symbol}
use Rattle.rule_definitions.specs.Names.{Scope, Symbol, symbol_of}
use Rattle.scope_table.specs.Symbols.{seen_from}
use Rattle.checked_tree.specs.declared.data.Home.{Home}
use Rattle.checked_tree.specs.declared.data.Home.TheVariants.{Own, Host}
use Rattle.call_rules.specs.Views.{own_coarray, whole_object, whole_part}

pub arithmetic_is_no_object : (ks : List ArithmeticLink) (o : ArithmeticOperator) (x z : t.Expression) (y : DataType) (r : ℕ) → whole_object (t.typed (arithmetic_chain ks (t.arithmetic o x z)) y r) ≡ None
arithmetic_is_no_object [] o x z y r = refl
arithmetic_is_no_object (k ∷ ks) o x z y r = arithmetic_is_no_object ks k.operator (t.typed (t.arithmetic o x z) k.left_type 0) (expression k.right) y r

pub logic_is_no_object : (ks : List LogicLink) (o : LogicalOperator) (x z : t.Expression) (y : DataType) (r : ℕ) → whole_object (t.typed (logic_chain ks (t.logic o x z)) y r) ≡ None
logic_is_no_object [] o x z y r = refl
logic_is_no_object (k ∷ ks) o x z y r = logic_is_no_object ks k.operator (t.typed (t.logic o x z) (Intrinsic L4) 0) (expression k.right) y r

pub arithmetic_is_no_coarray : (ks : List ArithmeticLink) (o : ArithmeticOperator) (x z : t.Expression) (y : DataType) (r : ℕ) → coarray_of (t.typed (arithmetic_chain ks (t.arithmetic o x z)) y r) ≡ None
arithmetic_is_no_coarray [] o x z y r = refl
arithmetic_is_no_coarray (k ∷ ks) o x z y r = arithmetic_is_no_coarray ks k.operator (t.typed (t.arithmetic o x z) k.left_type 0) (expression k.right) y r

pub logic_is_no_coarray : (ks : List LogicLink) (o : LogicalOperator) (x z : t.Expression) (y : DataType) (r : ℕ) → coarray_of (t.typed (logic_chain ks (t.logic o x z)) y r) ≡ None
logic_is_no_coarray [] o x z y r = refl
logic_is_no_coarray (k ∷ ks) o x z y r = logic_is_no_coarray ks k.operator (t.typed (t.logic o x z) (Intrinsic L4) 0) (expression k.right) y r

pub coarray_of_part : (d : t.Designator) (y : DataType) (r : ℕ) → coarray_of (t.typed (t.designator d) y r) ≡ own_coarray d
coarray_of_part (t.part (objects.Coarray n) ss t.no_selector) y r = refl
coarray_of_part (t.part o ss c) y r = refl

pub ruleset object_laws = (typed_forms, arithmetic_is_no_object, logic_is_no_object)

pub ruleset coarray_laws = (typed_forms, coarray_of_part, arithmetic_is_no_coarray, logic_is_no_coarray)

-- an allocatable variable is a whole object
pub allocatable_is : (s : Scope) (x : t.Expression) → allocatable_of s x ≡ elim (whole_object x) [ None ↦ None | Some o ↦ cond (is_allocatable_symbol (symbol_of s o)) (Some o) None ]
allocatable_is s (t.typed (t.designator (t.part o t.no_subscripts t.no_selector)) y r) = refl
allocatable_is s (t.typed f y r) = refl

pub allocatable_seen : (h : Home) (x : Symbol) → (seen_from h x).is_allocatable ≡ x.is_allocatable
allocatable_seen Own x = refl
allocatable_seen Host x = refl

-- a part with subscripts is no whole object
pub no_whole : (o : Object) (xs : List Subscript) (c : t.Selector) → 1 ≤ length xs → None ≡ whole_part (t.part o (subscripts xs) c)
no_whole o [] c e = absurd (grind (arith))
no_whole o (x ∷ xs) c e = refl
