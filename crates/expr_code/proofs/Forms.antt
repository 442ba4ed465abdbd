-- What is written of a form.
use Rattle.std.proofs.Common.{◌≡◌, ℕ, zero, suc, List, [], ◌∷◌, refl}
use Rattle.caf_base.specs.declared.value.Kind.{Kind}
use Rattle.checked_tree.specs.declared.data.DataType.{DataType}
use Rattle.checked_tree.specs.declared.data.Local.{Local}
use Rattle.checked_tree.specs.declared.expr.ArithmeticLink.{ArithmeticLink}
use Rattle.checked_tree.specs.declared.expr.ArithmeticOperator.{ArithmeticOperator}
use Rattle.checked_tree.specs.declared.expr.LogicLink.{LogicLink}
use Rattle.checked_tree.specs.declared.expr.LogicalOperator.{LogicalOperator}
use Rattle.checked_tree.specs.Expressions as t
use Rattle.checked_tree.specs.ExpressionViews as view
use Rattle.checked_tree.specs.ExpressionViews.{typed_forms}
use Rattle.checked_tree.specs.declared.data.DataType.TheVariants.{Intrinsic}
use Rattle.caf_base.specs.declared.value.Kind.TheVariants.{L4}
use Rattle.tree_meaning.specs.Environment.{Environment, kind_of}
use Rattle.tree_meaning.specs.Expressions.{expression, expressions, form, items, result_size, storing, result_place}
use Rattle.expr_code.specs.Drafts.{Drafted, written}
use Rattle.expr_code.specs.Pieces.{arithmetic_operators, logic_operators, ending_item, size_at, storing_at, section_at}

-- operators from the left: the first two operands, and then each operator, behind which the next right operand comes
pub written_arithmetic : (ks : List ArithmeticLink) (e : Environment) (o : ArithmeticOperator) (x y : t.Expression) (k : Kind) (r l : ℕ) (d : Drafted) → written l (form e (view.arithmetic_chain ks (t.arithmetic o x y)) k r) d ≡ written l (arithmetic_operators e o ks k) (written l (expression e y) (written l (expression e x) d))
written_arithmetic [] e o x y k r l d = refl
written_arithmetic (m ∷ ks) e o x y k r l d = written_arithmetic ks e m.operator (t.typed (t.arithmetic o x y) m.left_type 0) (view.expression m.right) k r l d

pub written_logic : (ks : List LogicLink) (e : Environment) (o : LogicalOperator) (x y : t.Expression) (k : Kind) (r l : ℕ) (d : Drafted) → written l (form e (view.logic_chain ks (t.logic o x y)) k r) d ≡ written l (logic_operators e o ks) (written l (expression e y) (written l (expression e x) d))
written_logic [] e o x y k r l d = refl
written_logic (m ∷ ks) e o x y k r l d = written_logic ks e m.operator (t.typed (t.logic o x y) (Intrinsic L4) 0) (view.expression m.right) k r l d

-- an item, by its rank
pub written_item : (e : Environment) (f : t.Form) (type : DataType) (r : ℕ) (es : t.Expressions) (l : ℕ) (d : Drafted) → written l (items e (t.more_expressions (t.typed f type r) es)) d ≡ written l (items e es) (written l (ending_item r) (written l (form e f (kind_of type) r) d))
written_item e f type zero es l d = refl
written_item e f type (suc r) es l d = refl

-- a result variable, by its subscripts
pub size_of_result : (v : Local) (es : t.Expressions) (k : Kind) → result_size (t.result_variable v es k) ≡ size_at es
size_of_result v t.no_expressions k = refl
size_of_result v (t.more_expressions x es) k = refl

pub result_stored : (depth : ℕ) (v : Local) (es : t.Expressions) (k : Kind) → storing depth (t.result_variable v es k) ≡ storing_at depth v es
result_stored depth v t.no_expressions k = refl
result_stored depth v (t.more_expressions x es) k = refl

pub result_placed : (e : Environment) (v : Local) (es : t.Expressions) (k : Kind) (l : ℕ) (d : Drafted) → written l (result_place e (t.result_variable v es k)) d ≡ written l (section_at v es) (written l (expressions e es) d)
result_placed e v t.no_expressions k l d = refl
result_placed e v (t.more_expressions x es) k l d = refl

pub ruleset laws = (typed_forms, written_arithmetic, written_logic, written_item, size_of_result, result_stored, result_placed)
