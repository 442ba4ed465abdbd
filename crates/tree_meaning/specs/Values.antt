-- The value of an expression of numbers, scalar variables and operators: a recursion over the tree that knows no stack
-- and no order of steps but that of faults (ISO/IEC 1539-1:2018, 10.1.4, 10.1.5).
use Rattle.std.specs.Prelude.{ℕ, zero, ℤ, pos, ◌+ℤ◌, ◌-ℤ◌, ◌*ℤ◌, ◌≡◌, Bool, not, ◌&&◌, ◌||◌, int_lt, int_le, Option, None, Some, slice_get}
use Rattle.std.specs.Ordering.{int_eq}
use Rattle.caf_base.specs.declared.value.Kind.{Kind}
use Rattle.walk_theory.specs.Evaluation.{Outcome, leaves, faulted}
use Rattle.walk_theory.specs.Terms.{Found, found, at_fault}
use Rattle.checked_tree.specs.declared.data.Object.TheVariants as objects
use Rattle.checked_tree.specs.declared.expr.ArithmeticOperator.{ArithmeticOperator}
use Rattle.checked_tree.specs.declared.expr.ArithmeticOperator.TheVariants as arithmetics
use Rattle.checked_tree.specs.declared.expr.RelationalOperator.{RelationalOperator}
use Rattle.checked_tree.specs.declared.expr.RelationalOperator.TheVariants as relations
use Rattle.checked_tree.specs.declared.expr.LogicalOperator.{LogicalOperator}
use Rattle.checked_tree.specs.declared.expr.LogicalOperator.TheVariants as logics
use Rattle.checked_tree.specs.Expressions as t
use Rattle.caf_base.specs.Arithmetic.{truth, is_true}
use Rattle.image_acts.specs.Operate.Operators.{in_kind, quotient, raised}
use Rattle.image_acts.specs.Acts.{Scope, here, host}
use Rattle.image_acts.specs.Core.{Core, pushed}
use Rattle.image_acts.specs.Frames.{last_or}
use Rattle.image_acts.specs.Meaning.{forgotten}
use Rattle.tree_meaning.specs.Environment.{scope_of, kind_of}

-- a value, a fault, or nothing that is said here
pub data Valued : Type 0 where
  is : ℤ → Valued
  fault : ℕ → Valued
  unsaid : Valued

-- the values of scalar variables by their numbers: those of the running body, and those of the main program
pub record Variables : Type 0 where
  pub own : ℕ → Option ℤ
  pub main : ℕ → Option ℤ

abbrev pub variables : Core → Variables
variables c = record { own = λ x. slice_get c.frame.cells x; main = λ x. slice_get (last_or c.frame c.callers).cells x }

abbrev pub variable_in : Scope → ℕ → Variables → Option ℤ
variable_in here x vs = vs.own x
variable_in host x vs = vs.main x

abbrev pub of_found : Found ℤ → Valued
of_found (found v) = is v
of_found (at_fault k) = fault k

abbrev pub of_cell : Option ℤ → Valued
of_cell None = unsaid
of_cell (Some v) = is v

-- what is made of one value, or of two, the left one's fault first
abbrev pub of_one : Valued → (ℤ → Found ℤ) → Valued
of_one (is v) f = of_found (f v)
of_one (fault k) f = fault k
of_one unsaid f = unsaid

abbrev pub of_two : Valued → Valued → (ℤ → ℤ → Found ℤ) → Valued
of_two (is v) (is w) f = of_found (f v w)
of_two (is v) (fault k) f = fault k
of_two (is v) unsaid f = unsaid
of_two (fault k) y f = fault k
of_two unsaid y f = unsaid

-- the operators
abbrev pub arithmetic_value : ArithmeticOperator → Kind → ℤ → ℤ → Found ℤ
arithmetic_value arithmetics.Power k v w = raised k v w
arithmetic_value arithmetics.Multiply k v w = in_kind k (v *ℤ w)
arithmetic_value arithmetics.Divide k v w = quotient k v w
arithmetic_value arithmetics.Add k v w = in_kind k (v +ℤ w)
arithmetic_value arithmetics.Subtract k v w = in_kind k (v -ℤ w)

abbrev pub relation_value : RelationalOperator → ℤ → ℤ → Bool
relation_value relations.Equal v w = int_eq v w
relation_value relations.NotEqual v w = not (int_eq v w)
relation_value relations.Less v w = int_lt v w
relation_value relations.LessEqual v w = int_le v w
relation_value relations.Greater v w = int_lt w v
relation_value relations.GreaterEqual v w = int_le w v

abbrev pub logic_value : LogicalOperator → ℤ → ℤ → Bool
logic_value logics.And v w = is_true v && is_true w
logic_value logics.Or v w = is_true v || is_true w
logic_value logics.Eqv v w = int_eq v w
logic_value logics.Neqv v w = not (int_eq v w)

abbrev pub scalar_value : t.Designator → ℕ → Variables → Valued
scalar_value (t.part (objects.Local v) t.no_subscripts sel) zero vs = of_cell (variable_in (scope_of v.home) v.variable vs)
scalar_value d rank vs = unsaid

abbrev mutual
  pub value_of : t.Expression → Variables → Valued
  value_of (t.typed f type rank) vs = form_value f (kind_of type) rank vs

  pub form_value : t.Form → Kind → ℕ → Variables → Valued
  form_value (t.number z) k rank vs = is z
  form_value (t.logical b) k rank vs = is (truth b)
  form_value (t.designator d) k rank vs = scalar_value d rank vs
  form_value (t.call n es) k rank vs = unsaid
  form_value (t.intrinsic i) k rank vs = unsaid
  form_value (t.parenthesized x) k rank vs = value_of x vs
  form_value (t.array_constructor es) k rank vs = unsaid
  form_value (t.plus x) k rank vs = value_of x vs
  form_value (t.minus x) k rank vs = of_one (value_of x vs) (λ v. in_kind k (pos 0 -ℤ v))
  form_value (t.not x) k rank vs = of_one (value_of x vs) (λ v. found (truth (not (is_true v))))
  form_value (t.arithmetic o x y) k rank vs = of_two (value_of x vs) (value_of y vs) (arithmetic_value o k)
  form_value (t.relation o x y) k rank vs = of_two (value_of x vs) (value_of y vs) (λ v w. found (truth (relation_value o v w)))
  form_value (t.logic o x y) k rank vs = of_two (value_of x vs) (value_of y vs) (λ v w. found (truth (logic_value o v w)))

-- an evaluation at this core puts the value down and changes nothing else; at a fault nothing but what was being
-- evaluated has changed
abbrev pub Leaves : Valued → Core → Outcome Core → Type 0
Leaves (is v) c o = o ≡ leaves (pushed v c)
Leaves (fault k) c o = (d : Core) × (o ≡ faulted k d) × (forgotten d ≡ forgotten c)
Leaves unsaid c o = Unit {0}
