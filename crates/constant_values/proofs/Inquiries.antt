-- Of what an inquiry asks.
use Rattle.std.proofs.Common.{◌≡◌, ℕ, false, cond, List, [], ◌∷◌, refl}
use Rattle.checked_tree.specs.Expressions as t
use Rattle.checked_tree.specs.declared.data.DataType.{DataType}
use Rattle.checked_tree.specs.declared.data.Object.TheVariants as objects
use Rattle.checked_tree.specs.declared.expr.ArithmeticLink.{ArithmeticLink}
use Rattle.checked_tree.specs.declared.expr.LogicLink.{LogicLink}
use Rattle.checked_tree.specs.ExpressionViews.{arithmetic_chain, logic_chain, expression}
use Rattle.rule_definitions.specs.Constants as rules
use Rattle.constant_values.specs.Inquiries.{is_variable}

pub inquired_is : (f : t.Form) (y : DataType) (r : ℕ) (k : rules.Known) → rules.inquired_bounds (t.typed f y r) k ≡ cond (is_variable f) k.bounds (cond (rules.is_constant k.constancy) k.bounds [])
inquired_is (t.designator (t.part (objects.Local l) ss c)) y r k = refl
inquired_is (t.designator (t.part (objects.Coarray n) ss c)) y r k = refl
inquired_is (t.designator (t.part (objects.Constant n) ss c)) y r k = refl
inquired_is (t.number n) y r k = refl
inquired_is (t.logical b) y r k = refl
inquired_is (t.call n as') y r k = refl
inquired_is (t.intrinsic i) y r k = refl
inquired_is (t.parenthesized e) y r k = refl
inquired_is (t.array_constructor es) y r k = refl
inquired_is (t.plus e) y r k = refl
inquired_is (t.minus e) y r k = refl
inquired_is (t.not e) y r k = refl
inquired_is (t.arithmetic o a b) y r k = refl
inquired_is (t.relation o a b) y r k = refl
inquired_is (t.logic o a b) y r k = refl

no_arithmetic : (ks : List ArithmeticLink) (f : t.Form) → is_variable f ≡ false → is_variable (arithmetic_chain ks f) ≡ false
no_arithmetic [] f h = h
no_arithmetic (k ∷ ks) f h = no_arithmetic ks (t.arithmetic k.operator (t.typed f k.left_type 0) (expression k.right)) refl

no_logic : (ks : List LogicLink) (f : t.Form) → is_variable f ≡ false → is_variable (logic_chain ks f) ≡ false
no_logic [] f h = h
no_logic (k ∷ ks) f h = no_logic ks (t.logic k.operator (t.typed f _ 0) (expression k.right)) refl

pub arithmetic_no_variable : (ks : List ArithmeticLink) (o : _) (a b : t.Expression) → is_variable (arithmetic_chain ks (t.arithmetic o a b)) ≡ false
arithmetic_no_variable ks o a b = no_arithmetic ks (t.arithmetic o a b) refl

pub logic_no_variable : (ks : List LogicLink) (o : _) (a b : t.Expression) → is_variable (logic_chain ks (t.logic o a b)) ≡ false
logic_no_variable ks o a b = no_logic ks (t.logic o a b) refl

pub ruleset no_variable = (arithmetic_no_variable, logic_no_variable)
