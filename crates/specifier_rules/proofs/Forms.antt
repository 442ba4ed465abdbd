-- Forms of expressions that are no designators.
use Rattle.std.proofs.Common.{◌≡◌, refl}
use Rattle.std.specs.Prelude.{List, [], ◌∷◌, Option, Some, None}
use Rattle.caf_base.specs.declared.value.Kind.TheVariants.{L4}
use Rattle.checked_tree.specs.Expressions as t
use Rattle.checked_tree.specs.ExpressionViews.{expression, form, arithmetic_chain, logic_chain, row_arithmetic_chain, row_logic_chain, typed_forms}
use Rattle.checked_tree.specs.declared.data.DataType.{DataType}
use Rattle.checked_tree.specs.declared.data.DataType.TheVariants.{Intrinsic}
use Rattle.checked_tree.specs.declared.expr.ArithmeticOperator.{ArithmeticOperator}
use Rattle.checked_tree.specs.declared.expr.LogicalOperator.{LogicalOperator}
use Rattle.checked_tree.specs.declared.expr.ArithmeticLink.{ArithmeticLink}
use Rattle.checked_tree.specs.declared.expr.LogicLink.{LogicLink}
use Rattle.checked_tree.specs.declared.expr.Designator.{Designator}
use Rattle.checked_tree.specs.declared.expr.ExprForm.{ExprForm}
use Rattle.checked_tree.specs.declared.expr.ExprForm.TheVariants as forms
use Rattle.checked_tree.specs.declared.expr.Argument.TheBlock as b
use Rattle.checked_tree.specs.declared.expr.Argument.TheBlock.{Row_of-ArithmeticLink, Row_of-LogicLink}
use Rattle.rule_definitions.specs.Parts.{result_form}
use Rattle.specifier_rules.specs.Variables.{designator_in}

row_arithmetic_is_none : (n : _) (k : Row_of-ArithmeticLink n) (o : ArithmeticOperator) (a b : t.Expression) → designator_in (row_arithmetic_chain k (t.arithmetic o a b)) ≡ None
unfolding form
row_arithmetic_is_none n b.end_of-ArithmeticLink o x y = refl
row_arithmetic_is_none n (b.more_of-ArithmeticLink u p e t' r rest) o x y = row_arithmetic_is_none _ rest p (t.typed (t.arithmetic o x y) u 0) (t.typed (form e) t' r)

row_logic_is_none : (n : _) (k : Row_of-LogicLink n) (o : LogicalOperator) (a b : t.Expression) → designator_in (row_logic_chain k (t.logic o a b)) ≡ None
unfolding form
row_logic_is_none n b.end_of-LogicLink o x y = refl
row_logic_is_none n (b.more_of-LogicLink p e t' r rest) o x y = row_logic_is_none _ rest p (t.typed (t.logic o x y) (Intrinsic L4) 0) (t.typed (form e) t' r)

pub other_is_none : (f : ExprForm) → ((d : Designator) → f ≡ forms.Designator d → ⊥) → designator_in (form f) ≡ None
unfolding form
other_is_none (forms.Number n) h = refl
other_is_none (forms.Logical x) h = refl
other_is_none (forms.Designator d) h = absurd (h d refl)
other_is_none (forms.Call' p m as') h = refl
other_is_none (forms.Intrinsic f) h = refl
other_is_none (forms.Parenthesized' p e u r) h = refl
other_is_none (forms.ArrayConstructor' m es) h = refl
other_is_none (forms.Plus' p e u r) h = refl
other_is_none (forms.Minus' p e u r) h = refl
other_is_none (forms.Not' p e u r) h = refl
other_is_none (forms.Arithmetic' o p x u r q y v w m ks) h = row_arithmetic_is_none _ ks o (t.typed (form x) u r) (t.typed (form y) v w)
other_is_none (forms.Relation' o p x u r q y v w) h = refl
other_is_none (forms.Logic' o p x u r q y v w m ks) h = row_logic_is_none _ ks o (t.typed (form x) u r) (t.typed (form y) v w)

pub arithmetic_is_none : (ks : List ArithmeticLink) (o : ArithmeticOperator) (x y : t.Expression) → designator_in (arithmetic_chain ks (t.arithmetic o x y)) ≡ None
arithmetic_is_none [] o x y = refl
arithmetic_is_none (k ∷ ks) o x y = arithmetic_is_none ks k.operator (t.typed (t.arithmetic o x y) k.left_type 0) (expression k.right)

pub logic_is_none : (ks : List LogicLink) (o : LogicalOperator) (x y : t.Expression) → designator_in (logic_chain ks (t.logic o x y)) ≡ None
logic_is_none [] o x y = refl
logic_is_none (k ∷ ks) o x y = logic_is_none ks k.operator (t.typed (t.logic o x y) (Intrinsic L4) 0) (expression k.right)

pub ruleset form_laws = (typed_forms, arithmetic_is_none, logic_is_none)

abbrev pub result_in : Option t.Designator → DataType → Option t.ResultVariable
result_in None y = None
result_in (Some d) y = result_form (t.designator d) y

pub result_by_designator : (x : t.Form) (y : DataType) → result_form x y ≡ result_in (designator_in x) y
result_by_designator (t.number n) y = refl
result_by_designator (t.logical b) y = refl
result_by_designator (t.designator d) y = refl
result_by_designator (t.call n as') y = refl
result_by_designator (t.intrinsic f) y = refl
result_by_designator (t.parenthesized e) y = refl
result_by_designator (t.array_constructor es) y = refl
result_by_designator (t.plus e) y = refl
result_by_designator (t.minus e) y = refl
result_by_designator (t.not e) y = refl
result_by_designator (t.arithmetic o a b) y = refl
result_by_designator (t.relation o a b) y = refl
result_by_designator (t.logic o a b) y = refl
