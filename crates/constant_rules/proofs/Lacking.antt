-- Forms of which a value may be wanting.
use Rattle.std.proofs.Common.{◌≡◌, ℕ, ◌≤◌, length, arith, not, Bool, true, false, List, [], ◌∷◌, refl, sym, ap, ◌∙◌}
use Rattle.std.specs.Prelude.{◌||◌, ◌&&◌, cond}
use Rattle.caf_base.specs.declared.place.Pos.{Pos}
use Rattle.checked_tree.specs.Expressions as t
use Rattle.checked_tree.specs.declared.data.DataType.{DataType}
use Rattle.checked_tree.specs.declared.data.Object.TheVariants as objects
use Rattle.checked_tree.specs.declared.expr.ArithmeticLink.{ArithmeticLink}
use Rattle.checked_tree.specs.declared.expr.LogicLink.{LogicLink}
use Rattle.checked_tree.specs.ExpressionViews.{arithmetic_chain, logic_chain, expression as typed}
use Rattle.fortran_tree.specs.Expressions as f
use Rattle.fortran_tree.specs.ExpressionViews.{chain, expression, section_subscripts}
use Rattle.fortran_tree.specs.declared.expr.Subscript.{Subscript as SubscriptType}
use Rattle.fortran_tree.specs.declared.expr.Link.{Link}
use Rattle.rule_definitions.specs.Names.{Scope}
use Rattle.rule_definitions.specs.Constants.{value_of, is_constant}
use Rattle.rule_definitions.specs.Declarations.{lacks_value, is_inquirable, has_brackets}
use Rattle.constant_rules.specs.Wanting.{link_lacks_value, is_variable}

or_assoc : (a b c : Bool) → ((a || b) || c) ≡ (a || (b || c))
or_assoc true b c = refl
or_assoc false b c = refl

or_false : (a : Bool) → (a || false) ≡ a
or_false true = refl
or_false false = refl

chain_from : (s : Scope) (ks : List Link) (at : Pos) (e : f.Expression) → lacks_value s (chain ks at e) ≡ (lacks_value s e || link_lacks_value s ks)
chain_from s [] at e = sym (or_false (lacks_value s e))
chain_from s (k ∷ ks) at e =
    chain_from s ks at (f.binary k.operator e (expression k.operand) at) ∙ or_assoc (lacks_value s e) (lacks_value s (expression k.operand)) (link_lacks_value s ks)

-- operators from the left
pub chain_lacks_value : (s : Scope) (ks : List Link) (at : Pos) (o : _) (a b : f.Expression)
    → lacks_value s (chain ks at (f.binary o a b at)) ≡ ((lacks_value s a || lacks_value s b) || link_lacks_value s ks)
chain_lacks_value s ks at o a b = chain_from s ks at (f.binary o a b at)

pub inquirable_is : (s : Scope) (x : t.Form) (y : DataType) (r : ℕ) → is_inquirable s (t.typed x y r) ≡ (is_variable x || is_constant (value_of s (t.typed x y r)))
inquirable_is s (t.designator (t.part (objects.Constant n) ss c)) y r = refl
inquirable_is s (t.designator (t.part (objects.Local l) ss c)) y r = refl
inquirable_is s (t.designator (t.part (objects.Coarray n) ss c)) y r = refl
inquirable_is s (t.number n) y r = refl
inquirable_is s (t.logical b) y r = refl
inquirable_is s (t.call n as') y r = refl
inquirable_is s (t.intrinsic i) y r = refl
inquirable_is s (t.parenthesized e) y r = refl
inquirable_is s (t.array_constructor es) y r = refl
inquirable_is s (t.plus e) y r = refl
inquirable_is s (t.minus e) y r = refl
inquirable_is s (t.not e) y r = refl
inquirable_is s (t.arithmetic o a b) y r = refl
inquirable_is s (t.relation o a b) y r = refl
inquirable_is s (t.logic o a b) y r = refl

pub inquirable_variable : (s : Scope) (x : t.Form) (y : DataType) (r : ℕ) → is_variable x ≡ true → true ≡ is_inquirable s (t.typed x y r)
inquirable_variable s x y r h = sym (inquirable_is s x y r ∙ ap (λ b. b || is_constant (value_of s (t.typed x y r))) h)

pub inquirable_constant : (s : Scope) (x : t.Form) (y : DataType) (r : ℕ) (b : Bool) → is_variable x ≡ false → b ≡ is_constant (value_of s (t.typed x y r)) → b ≡ is_inquirable s (t.typed x y r)
inquirable_constant s x y r b h e = e ∙ sym (inquirable_is s x y r ∙ ap (λ c. c || is_constant (value_of s (t.typed x y r))) h)

no_arithmetic : (ks : List ArithmeticLink) (x : t.Form) → is_variable x ≡ false → is_variable (arithmetic_chain ks x) ≡ false
no_arithmetic [] x h = h
no_arithmetic (k ∷ ks) x h = no_arithmetic ks (t.arithmetic k.operator (t.typed x k.left_type 0) (typed k.right)) refl

no_logic : (ks : List LogicLink) (x : t.Form) → is_variable x ≡ false → is_variable (logic_chain ks x) ≡ false
no_logic [] x h = h
no_logic (k ∷ ks) x h = no_logic ks (t.logic k.operator (t.typed x _ 0) (typed k.right)) refl

pub arithmetic_no_variable : (ks : List ArithmeticLink) (o : _) (a b : t.Expression) → is_variable (arithmetic_chain ks (t.arithmetic o a b)) ≡ false
arithmetic_no_variable ks o a b = no_arithmetic ks (t.arithmetic o a b) refl

pub logic_no_variable : (ks : List LogicLink) (o : _) (a b : t.Expression) → is_variable (logic_chain ks (t.logic o a b)) ≡ false
logic_no_variable ks o a b = no_logic ks (t.logic o a b) refl

pub ruleset no_variable = (arithmetic_no_variable, logic_no_variable)

pub refused_none : (f h i : Bool) → f ≡ false → h ≡ false → false ≡ (f || (h && not i))
refused_none f h i p q = sym (ap (λ b. b || (h && not i)) p ∙ ap (λ b. b && not i) q)

pub brackets_there : (xs : List SubscriptType) → 1 ≤ length xs → true ≡ has_brackets (section_subscripts xs)
brackets_there [] h = absurd (omega (arith, h))
brackets_there (x ∷ xs) h = refl

-- what the further operators of a chain say, where its first two operands have values
pub links_left : (s : Scope) (ks : List Link) (at : Pos) (o : _) (a b e : f.Expression) (r : Bool) → e ≡ chain ks at (f.binary o a b at)
    → lacks_value s a ≡ false → lacks_value s b ≡ false → r ≡ link_lacks_value s ks → r ≡ lacks_value s e
links_left s ks at o a b e r d p q z =
    z ∙ sym (ap (lacks_value s) d ∙ chain_lacks_value s ks at o a b ∙ ap (λ c. (c || lacks_value s b) || link_lacks_value s ks) p ∙ ap (λ c. c || link_lacks_value s ks) q)
