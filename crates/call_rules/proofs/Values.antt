-- What is no designator, by its form.
use Rattle.std.proofs.Common.{◌≡◌, refl, ℕ, List, [], ◌∷◌}
use Rattle.std.specs.Prelude.{Bool, true, false}
use Rattle.caf_base.specs.declared.value.Kind.TheVariants.{L4}
use Rattle.checked_tree.specs.Expressions as t
use Rattle.checked_tree.specs.ExpressionViews.{expression, form, arithmetic_chain, logic_chain, row_arithmetic_chain, row_logic_chain, typed_forms}
use Rattle.checked_tree.specs.declared.data.DataType.{DataType}
use Rattle.checked_tree.specs.declared.data.DataType.TheVariants.{Intrinsic}
use Rattle.checked_tree.specs.declared.expr.ArithmeticOperator.{ArithmeticOperator}
use Rattle.checked_tree.specs.declared.expr.LogicalOperator.{LogicalOperator}
use Rattle.checked_tree.specs.declared.expr.ArithmeticLink.{ArithmeticLink}
use Rattle.checked_tree.specs.declared.expr.LogicLink.{LogicLink}
use Rattle.checked_tree.specs.declared.expr.Designator.{Designator}
use Rattle.checked_tree.specs.declared.expr.ExprForm.{ExprForm}
use Rattle.checked_tree.specs.declared.expr.ExprForm.TheVariants as forms
use Rattle.checked_tree.specs.declared.expr.Argument.TheBlock as b
use Rattle.checked_tree.specs.declared.expr.Argument.TheBlock.{Row_of-ArithmeticLink, Row_of-LogicLink}
use Rattle.rule_definitions.specs.Arguments.{is_local_variable}
use Rattle.call_rules.specs.Pairs.{argument_as}

pub arithmetic_is_no_variable : (ks : List ArithmeticLink) (o : ArithmeticOperator) (x z : t.Expression) (y : DataType) (r : ℕ) → is_local_variable (t.typed (arithmetic_chain ks (t.arithmetic o x z)) y r) ≡ false
arithmetic_is_no_variable [] o x z y r = refl
arithmetic_is_no_variable (k ∷ ks) o x z y r = arithmetic_is_no_variable ks k.operator (t.typed (t.arithmetic o x z) k.left_type 0) (expression k.right) y r

pub logic_is_no_variable : (ks : List LogicLink) (o : LogicalOperator) (x z : t.Expression) (y : DataType) (r : ℕ) → is_local_variable (t.typed (logic_chain ks (t.logic o x z)) y r) ≡ false
logic_is_no_variable [] o x z y r = refl
logic_is_no_variable (k ∷ ks) o x z y r = logic_is_no_variable ks k.operator (t.typed (t.logic o x z) (Intrinsic L4) 0) (expression k.right) y r

pub ruleset variable_laws = (typed_forms, arithmetic_is_no_variable, logic_is_no_variable)

arithmetic_row : {m : _} (k : Row_of-ArithmeticLink m) (o : ArithmeticOperator) (x z : t.Expression) (y : DataType) (r : ℕ)
    → argument_as false (t.typed (row_arithmetic_chain k (t.arithmetic o x z)) y r) ≡ t.value (t.typed (row_arithmetic_chain k (t.arithmetic o x z)) y r)
unfolding form
arithmetic_row b.end_of-ArithmeticLink o x z y r = refl
arithmetic_row (b.more_of-ArithmeticLink u p e s q rest) o x z y r = arithmetic_row rest p (t.typed (t.arithmetic o x z) u 0) (t.typed (form e) s q) y r

logic_row : {m : _} (k : Row_of-LogicLink m) (o : LogicalOperator) (x z : t.Expression) (y : DataType) (r : ℕ)
    → argument_as false (t.typed (row_logic_chain k (t.logic o x z)) y r) ≡ t.value (t.typed (row_logic_chain k (t.logic o x z)) y r)
unfolding form
logic_row b.end_of-LogicLink o x z y r = refl
logic_row (b.more_of-LogicLink p e s q rest) o x z y r = logic_row rest p (t.typed (t.logic o x z) (Intrinsic L4) 0) (t.typed (form e) s q) y r

pub value_form : (f : ExprForm) (y : DataType) (r : ℕ) → ((d : Designator) → f ≡ forms.Designator d → ⊥) → argument_as false (t.typed (form f) y r) ≡ t.value (t.typed (form f) y r)
unfolding form
value_form (forms.Designator d) y r h = absurd (h d refl)
value_form (forms.Arithmetic' o p a u v q c w z m ks) y r h = arithmetic_row ks o (t.typed (form a) u v) (t.typed (form c) w z) y r
value_form (forms.Logic' o p a u v q c w z m ks) y r h = logic_row ks o (t.typed (form a) u v) (t.typed (form c) w z) y r
value_form f y r h = refl
