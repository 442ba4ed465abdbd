-- What is seen of an expression by its form, where further operators stand behind it.
use Rattle.std.proofs.Common.{◌≡◌, List, [], ◌∷◌, false, refl}
use Rattle.caf_base.specs.declared.value.Kind.TheVariants.{L4}
use Rattle.checked_tree.specs.Expressions as t
use Rattle.checked_tree.specs.ExpressionViews.{expression, arithmetic_chain, logic_chain, typed_forms}
use Rattle.checked_tree.specs.declared.data.DataType.TheVariants.{Intrinsic}
use Rattle.checked_tree.specs.declared.expr.ArithmeticOperator.{ArithmeticOperator}
use Rattle.checked_tree.specs.declared.expr.LogicalOperator.{LogicalOperator}
use Rattle.checked_tree.specs.declared.expr.ArithmeticLink.{ArithmeticLink}
use Rattle.checked_tree.specs.declared.expr.LogicLink.{LogicLink}
use Rattle.rule_definitions.specs.Parts.{is_listed_form}

pub arithmetic_is_no_list : (ks : List ArithmeticLink) (o : ArithmeticOperator) (a b : t.Expression) → is_listed_form (arithmetic_chain ks (t.arithmetic o a b)) ≡ false
arithmetic_is_no_list [] o a b = refl
arithmetic_is_no_list (k ∷ ks) o a b = arithmetic_is_no_list ks k.operator (t.typed (t.arithmetic o a b) k.left_type 0) (expression k.right)

pub logic_is_no_list : (ks : List LogicLink) (o : LogicalOperator) (a b : t.Expression) → is_listed_form (logic_chain ks (t.logic o a b)) ≡ false
logic_is_no_list [] o a b = refl
logic_is_no_list (k ∷ ks) o a b = logic_is_no_list ks k.operator (t.typed (t.logic o a b) (Intrinsic L4) 0) (expression k.right)

pub ruleset list_laws = (typed_forms, arithmetic_is_no_list, logic_is_no_list)
