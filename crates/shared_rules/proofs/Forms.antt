-- Forms of expressions, seen through what stands in memory, and what the rules say of them by the designator that they
-- are.
use Rattle.std.proofs.Common.{◌≡◌, ℕ, zero, suc, Bool, true, false, nat_eq, List, [], ◌∷◌, refl, arith}
use Rattle.std.specs.Prelude.{Option, Some, None}
use Rattle.caf_base.specs.declared.value.Kind.TheVariants.{L4}
use Rattle.checked_tree.specs.Expressions as t
use Rattle.checked_tree.specs.ExpressionViews.{expression, arithmetic_chain, logic_chain, typed_forms}
use Rattle.checked_tree.specs.declared.data.DataType.{DataType}
use Rattle.checked_tree.specs.declared.data.DataType.TheVariants.{Intrinsic, Team, Event, Lock}
use Rattle.checked_tree.specs.declared.expr.ArithmeticOperator.{ArithmeticOperator}
use Rattle.checked_tree.specs.declared.expr.LogicalOperator.{LogicalOperator}
use Rattle.checked_tree.specs.declared.expr.ArithmeticLink.{ArithmeticLink}
use Rattle.checked_tree.specs.declared.expr.LogicLink.{LogicLink}
use Rattle.rule_definitions.specs.Actions.{lock_of}
use Rattle.rule_definitions.specs.Names.{is_lock}
use Rattle.rule_definitions.specs.Parts.{is_listed_form}
use Rattle.shared_rules.specs.Forms.{is_plain_form, scalar_designator}

pub arithmetic_plain : (ks : List ArithmeticLink) (o : ArithmeticOperator) (a b : t.Expression) → is_plain_form (arithmetic_chain ks (t.arithmetic o a b)) ≡ false
arithmetic_plain [] o a b = refl
arithmetic_plain (k ∷ ks) o a b = arithmetic_plain ks k.operator (t.typed (t.arithmetic o a b) k.left_type 0) (expression k.right)

pub logic_plain : (ks : List LogicLink) (o : LogicalOperator) (a b : t.Expression) → is_plain_form (logic_chain ks (t.logic o a b)) ≡ false
logic_plain [] o a b = refl
logic_plain (k ∷ ks) o a b = logic_plain ks k.operator (t.typed (t.logic o a b) (Intrinsic L4) 0) (expression k.right)

pub arithmetic_listed : (ks : List ArithmeticLink) (o : ArithmeticOperator) (a b : t.Expression) → is_listed_form (arithmetic_chain ks (t.arithmetic o a b)) ≡ false
arithmetic_listed [] o a b = refl
arithmetic_listed (k ∷ ks) o a b = arithmetic_listed ks k.operator (t.typed (t.arithmetic o a b) k.left_type 0) (expression k.right)

pub logic_listed : (ks : List LogicLink) (o : LogicalOperator) (a b : t.Expression) → is_listed_form (logic_chain ks (t.logic o a b)) ≡ false
logic_listed [] o a b = refl
logic_listed (k ∷ ks) o a b = logic_listed ks k.operator (t.typed (t.logic o a b) (Intrinsic L4) 0) (expression k.right)

pub ruleset form_laws = (typed_forms, arithmetic_plain, logic_plain, arithmetic_listed, logic_listed)

-- what the rules say of an expression, by the designator that it is

pub suc_isnt_zero : (r : ℕ) → nat_eq (suc r) 0 ≡ false
suc_isnt_zero r = grind arith

pub lock_by : (f : t.Form) (y : DataType) (r : ℕ) → lock_of (t.typed f y r) ≡ scalar_designator (is_lock y) f r
lock_by (t.designator d) (Intrinsic k) r = refl
lock_by (t.number n) (Intrinsic k) r = refl
lock_by (t.logical b) (Intrinsic k) r = refl
lock_by (t.call p as') (Intrinsic k) r = refl
lock_by (t.intrinsic i) (Intrinsic k) r = refl
lock_by (t.parenthesized e) (Intrinsic k) r = refl
lock_by (t.array_constructor es) (Intrinsic k) r = refl
lock_by (t.plus e) (Intrinsic k) r = refl
lock_by (t.minus e) (Intrinsic k) r = refl
lock_by (t.not e) (Intrinsic k) r = refl
lock_by (t.arithmetic o a b) (Intrinsic k) r = refl
lock_by (t.relation o a b) (Intrinsic k) r = refl
lock_by (t.logic o a b) (Intrinsic k) r = refl
lock_by (t.designator d) Team r = refl
lock_by (t.number n) Team r = refl
lock_by (t.logical b) Team r = refl
lock_by (t.call p as') Team r = refl
lock_by (t.intrinsic i) Team r = refl
lock_by (t.parenthesized e) Team r = refl
lock_by (t.array_constructor es) Team r = refl
lock_by (t.plus e) Team r = refl
lock_by (t.minus e) Team r = refl
lock_by (t.not e) Team r = refl
lock_by (t.arithmetic o a b) Team r = refl
lock_by (t.relation o a b) Team r = refl
lock_by (t.logic o a b) Team r = refl
lock_by (t.designator d) Event r = refl
lock_by (t.number n) Event r = refl
lock_by (t.logical b) Event r = refl
lock_by (t.call p as') Event r = refl
lock_by (t.intrinsic i) Event r = refl
lock_by (t.parenthesized e) Event r = refl
lock_by (t.array_constructor es) Event r = refl
lock_by (t.plus e) Event r = refl
lock_by (t.minus e) Event r = refl
lock_by (t.not e) Event r = refl
lock_by (t.arithmetic o a b) Event r = refl
lock_by (t.relation o a b) Event r = refl
lock_by (t.logic o a b) Event r = refl
lock_by (t.designator d) Lock zero = refl
lock_by (t.designator d) Lock (suc r) = rw (suc_isnt_zero r) refl
lock_by (t.number n) Lock zero = refl
lock_by (t.number n) Lock (suc r) = rw (suc_isnt_zero r) refl
lock_by (t.logical b) Lock zero = refl
lock_by (t.logical b) Lock (suc r) = rw (suc_isnt_zero r) refl
lock_by (t.call p as') Lock zero = refl
lock_by (t.call p as') Lock (suc r) = rw (suc_isnt_zero r) refl
lock_by (t.intrinsic i) Lock zero = refl
lock_by (t.intrinsic i) Lock (suc r) = rw (suc_isnt_zero r) refl
lock_by (t.parenthesized e) Lock zero = refl
lock_by (t.parenthesized e) Lock (suc r) = rw (suc_isnt_zero r) refl
lock_by (t.array_constructor es) Lock zero = refl
lock_by (t.array_constructor es) Lock (suc r) = rw (suc_isnt_zero r) refl
lock_by (t.plus e) Lock zero = refl
lock_by (t.plus e) Lock (suc r) = rw (suc_isnt_zero r) refl
lock_by (t.minus e) Lock zero = refl
lock_by (t.minus e) Lock (suc r) = rw (suc_isnt_zero r) refl
lock_by (t.not e) Lock zero = refl
lock_by (t.not e) Lock (suc r) = rw (suc_isnt_zero r) refl
lock_by (t.arithmetic o a b) Lock zero = refl
lock_by (t.arithmetic o a b) Lock (suc r) = rw (suc_isnt_zero r) refl
lock_by (t.relation o a b) Lock zero = refl
lock_by (t.relation o a b) Lock (suc r) = rw (suc_isnt_zero r) refl
lock_by (t.logic o a b) Lock zero = refl
lock_by (t.logic o a b) Lock (suc r) = rw (suc_isnt_zero r) refl
