-- What is written of intrinsic functions and bounds.
use Rattle.std.proofs.Common.{◌≡◌, ◌∙◌, ℕ, List, [], ◌∷◌, refl, ap, sym}
use Rattle.caf_base.specs.declared.value.Kind.{Kind}
use Rattle.caf_base.specs.declared.value.Kind.TheVariants.{L4}
use Rattle.walk_theory.specs.Syntax.{Parts}
use Rattle.checked_tree.specs.declared.data.DataType.TheVariants.{Intrinsic}
use Rattle.checked_tree.specs.declared.data.Local.{Local}
use Rattle.checked_tree.specs.declared.data.Object.{Object}
use Rattle.checked_tree.specs.declared.data.Object.TheVariants as objects
use Rattle.checked_tree.specs.declared.data.Variable.{Variable}
use Rattle.checked_tree.specs.declared.expr.ArithmeticLink.{ArithmeticLink}
use Rattle.checked_tree.specs.declared.expr.ArithmeticOperator.{ArithmeticOperator}
use Rattle.checked_tree.specs.declared.expr.LogicLink.{LogicLink}
use Rattle.checked_tree.specs.declared.expr.LogicalOperator.{LogicalOperator}
use Rattle.checked_tree.specs.declared.expr.WrittenOrder.{WrittenOrder}
use Rattle.checked_tree.specs.declared.expr.WrittenOrder.TheVariants as orders
use Rattle.checked_tree.specs.Expressions as t
use Rattle.checked_tree.specs.ExpressionViews as view
use Rattle.image_acts.specs.Acts as a
use Rattle.image_acts.specs.Acts.{Act, bounded}
use Rattle.tree_meaning.specs.Environment.{Environment, scope_of, constant_place}
use Rattle.tree_meaning.specs.Sequences.{◌▸◌, doing, nothing}
use Rattle.tree_meaning.specs.Expressions.{expression, optional, beside_as_written, form_of, subscripts, intrinsic, bounds_of, bounds_of_part, arguments, passed}
use Rattle.expr_code.specs.Drafts.{Drafted, written}
use Rattle.expr_code.specs.Functions.{is_there, is_whole, local_bounds, extent_by, team_of_level, coarray_bounds, bounds_of_designator, bounds_of_form, bounds_of_array}
use Rattle.expr_code.proofs.Forms.{laws as forms}

pub get_team_written : (e : Environment) (x : t.OptionalExpression) (k : Kind) → intrinsic e (t.get_team x) k ≡ team_of_level e x
get_team_written e t.missing k = refl
get_team_written e (t.given x) k = refl

pub allocated_written : (e : Environment) (x : Object) (k : Kind) → intrinsic e (t.allocated x) k ≡ is_there x
allocated_written e (objects.Local v) k = refl
allocated_written e (objects.Coarray c) k = refl
allocated_written e (objects.Constant n) k = refl

-- operators have no bounds
pub arithmetic_bounds : (ks : List ArithmeticLink) (e : Environment) (o : ArithmeticOperator) (x y : t.Expression) (k : Kind) (r : ℕ) → bounds_of_form e (view.arithmetic_chain ks (t.arithmetic o x y)) k r ≡ nothing
arithmetic_bounds [] e o x y k r = refl
arithmetic_bounds (m ∷ ks) e o x y k r = arithmetic_bounds ks e m.operator (t.typed (t.arithmetic o x y) m.left_type 0) (view.expression m.right) k r

pub logic_bounds : (ks : List LogicLink) (e : Environment) (o : LogicalOperator) (x y : t.Expression) (k : Kind) (r : ℕ) → bounds_of_form e (view.logic_chain ks (t.logic o x y)) k r ≡ nothing
logic_bounds [] e o x y k r = refl
logic_bounds (m ∷ ks) e o x y k r = logic_bounds ks e m.operator (t.typed (t.logic o x y) (Intrinsic L4) 0) (view.expression m.right) k r

-- the bounds of a part, by its subscripts
pub local_part_bounds : (e : Environment) (v : Local) (ss : t.Subscripts) (sel : t.Selector) (r l : ℕ) (d : Drafted) →
    written l (bounds_of_part e (t.part (objects.Local v) ss sel) r) d ≡ written l (local_bounds (is_whole ss) (scope_of v.home) v.variable (form_of ss r) r) (written l (subscripts e ss) d)
local_part_bounds e v t.no_subscripts sel r l d = refl
local_part_bounds e v (t.more_subscripts s ss) sel r l d = refl

pub constant_part_bounds : (e : Environment) (n : ℕ) (ss : t.Subscripts) (sel : t.Selector) (r l : ℕ) (d : Drafted) →
    written l (bounds_of_part e (t.part (objects.Constant n) ss sel) r) d ≡ written l (local_bounds (is_whole ss) e.main (constant_place e n) (form_of ss r) r) (written l (subscripts e ss) d)
constant_part_bounds e n t.no_subscripts sel r l d = refl
constant_part_bounds e n (t.more_subscripts s ss) sel r l d = refl

pub coarray_part_bounds : (e : Environment) (c : ℕ) (ss : t.Subscripts) (sel : t.Selector) (r l : ℕ) (d : Drafted) →
    written l (bounds_of_part e (t.part (objects.Coarray c) ss sel) r) d ≡ written l (coarray_bounds e (is_whole ss) c (form_of ss r) r sel) (written l (subscripts e ss) d)
coarray_part_bounds e c t.no_subscripts sel r l d = refl
coarray_part_bounds e c (t.more_subscripts s ss) t.no_selector r l d = refl
coarray_part_bounds e c (t.more_subscripts s ss) (t.selector cs which stat) r l d = refl

pub part_bounds : (e : Environment) (x : t.Designator) (r l : ℕ) (d : Drafted) → written l (bounds_of_part e x r) d ≡ written l (bounds_of_designator e x r) d
part_bounds e (t.part (objects.Local v) ss sel) r l d = local_part_bounds e v ss sel r l d
part_bounds e (t.part (objects.Constant n) ss sel) r l d = constant_part_bounds e n ss sel r l d
part_bounds e (t.part (objects.Coarray c) ss sel) r l d = coarray_part_bounds e c ss sel r l d

-- the bounds of an array, by its form
pub bounds_by_form : (e : Environment) (x : t.Expression) (l : ℕ) (d : Drafted) → written l (bounds_of e x) d ≡ written l (bounds_of_array e x) d
bounds_by_form e (t.typed (t.number z) type r) l d = refl
bounds_by_form e (t.typed (t.logical b) type r) l d = refl
bounds_by_form e (t.typed (t.designator x) type r) l d = part_bounds e x r l d
bounds_by_form e (t.typed (t.call n es) type r) l d = refl
bounds_by_form e (t.typed (t.intrinsic i) type r) l d = refl
bounds_by_form e (t.typed (t.parenthesized x) type r) l d = refl
bounds_by_form e (t.typed (t.array_constructor es) type r) l d = refl
bounds_by_form e (t.typed (t.plus x) type r) l d = refl
bounds_by_form e (t.typed (t.minus x) type r) l d = refl
bounds_by_form e (t.typed (t.not x) type r) l d = refl
bounds_by_form e (t.typed (t.arithmetic o x y) type r) l d = refl
bounds_by_form e (t.typed (t.relation o x y) type r) l d = refl
bounds_by_form e (t.typed (t.logic o x y) type r) l d = refl

-- bounds beside another part, and then a third one
bounds_beside : (e : Environment) (o : WrittenOrder) (x : t.Expression) (p q : Parts Act) (l : ℕ) (d : Drafted) →
    written l (beside_as_written o (bounds_of e x) p ▸ q) d ≡ written l (beside_as_written o (bounds_of_array e x) p ▸ q) d
bounds_beside e orders.Same x p q l d = ap (λ s. written l q (written l p s)) (bounds_by_form e x l d)
bounds_beside e orders.Reversed x p q l d = ap (λ s. written l q s) (bounds_by_form e x l (written l p d))

pub lbound_written : (e : Environment) (x y : t.Expression) (o : WrittenOrder) (k : Kind) (l : ℕ) (d : Drafted) →
    written l (intrinsic e (t.lbound x y o) k) d ≡ written l (beside_as_written o (bounds_of_array e x) (expression e y) ▸ doing (bounded a.lower_bound ∷ [])) d
lbound_written e x y o k l d = bounds_beside e o x (expression e y) (doing (bounded a.lower_bound ∷ [])) l d

pub ubound_written : (e : Environment) (x y : t.Expression) (o : WrittenOrder) (k : Kind) (l : ℕ) (d : Drafted) →
    written l (intrinsic e (t.ubound x y o) k) d ≡ written l (beside_as_written o (bounds_of_array e x) (expression e y) ▸ doing (bounded a.upper_bound ∷ [])) d
ubound_written e x y o k l d = bounds_beside e o x (expression e y) (doing (bounded a.upper_bound ∷ [])) l d

-- the order of SIZE's arguments matters only where there is a dimension
size_in_order : (e : Environment) (x : t.Expression) (y : t.OptionalExpression) (o : WrittenOrder) (k : Kind) (l : ℕ) (d : Drafted) →
    written l (intrinsic e (t.size x y o) k) d ≡ written l (beside_as_written o (bounds_of e x) (optional e y) ▸ extent_by y) d
size_in_order e x t.missing orders.Same k l d = refl
size_in_order e x t.missing orders.Reversed k l d = refl
size_in_order e x (t.given y) o k l d = refl

pub size_written : (e : Environment) (x : t.Expression) (y : t.OptionalExpression) (o : WrittenOrder) (k : Kind) (l : ℕ) (d : Drafted) →
    written l (intrinsic e (t.size x y o) k) d ≡ written l (beside_as_written o (bounds_of_array e x) (optional e y) ▸ extent_by y) d
size_written e x y o k l d = size_in_order e x y o k l d ∙ bounds_beside e o x (optional e y) (extent_by y) l d

-- what is written of a function, by one that it is
pub of_function : (e : Environment) (i j : t.Intrinsic) (k : Kind) (l : ℕ) (p : Parts Act) (d d' : Drafted) →
    i ≡ j → written l (intrinsic e j k) d ≡ written l p d → d' ≡ written l p d → d' ≡ written l (intrinsic e i k) d
of_function e i j k l p d d' same by done = done ∙ sym by ∙ sym (ap (λ m. written l (intrinsic e m k) d) same)

-- without dummies there are no arguments, and without arguments none is passed
pub no_dummies : (e : Environment) (vs : List Variable) (es : t.Arguments) → arguments e vs [] es ≡ nothing
no_dummies e vs t.no_arguments = refl
no_dummies e vs (t.more_arguments x es) = refl

pub ruleset laws = (forms, allocated_written, arithmetic_bounds, logic_bounds, no_dummies)
