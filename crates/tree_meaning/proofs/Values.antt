-- The walk of an expression leaves its value.
use Rattle.std.proofs.Common.{◌≡◌, refl, ap, sym, subst, ℕ, zero, ℤ, pos, ◌-ℤ◌, not, [], ◌∷◌, Option, None, Some}
use Rattle.std.specs.Prelude.{slice_get}
use Rattle.caf_base.specs.declared.value.Kind.{Kind}
use Rattle.walk_theory.specs.Syntax.{Parts, end_parts}
use Rattle.walk_theory.specs.Evaluation.{Outcome, and_then, of_effect, outcome}
use Rattle.walk_theory.specs.Terms.{Found, found, at_fault}
use Rattle.checked_tree.specs.declared.data.Object.TheVariants as objects
use Rattle.checked_tree.specs.declared.expr.ArithmeticOperator.{ArithmeticOperator}
use Rattle.checked_tree.specs.declared.expr.ArithmeticOperator.TheVariants as arithmetics
use Rattle.checked_tree.specs.declared.expr.RelationalOperator.{RelationalOperator}
use Rattle.checked_tree.specs.declared.expr.RelationalOperator.TheVariants as relations
use Rattle.checked_tree.specs.declared.expr.LogicalOperator.{LogicalOperator}
use Rattle.checked_tree.specs.declared.expr.LogicalOperator.TheVariants as logics
use Rattle.checked_tree.specs.Expressions as t
use Rattle.caf_base.specs.Arithmetic.{truth, is_true}
use Rattle.image_acts.specs.Operate.Operators.{in_kind}
use Rattle.image_acts.specs.Acts as a
use Rattle.image_acts.specs.Acts.{Act, Scope, here, host, operator, variable}
use Rattle.image_acts.specs.Core.{Core, pushed}
use Rattle.image_acts.specs.Frames.{cell_in, last_or}
use Rattle.image_acts.specs.Taking.{given, found_in, giving}
use Rattle.image_acts.specs.Meaning.{operate, settled, forgotten, image_language}
use Rattle.tree_meaning.specs.Environment.{Environment, scope_of, kind_of}
use Rattle.tree_meaning.specs.Sequences.{◌▸◌, doing}
use Rattle.tree_meaning.specs.Expressions.{expression, form, arithmetic_act, relation_act, logic_act}
use Rattle.tree_meaning.specs.Values.{Valued, is, fault, unsaid, variables, variable_in, of_found, of_cell, of_one, of_two, arithmetic_value, relation_value, logic_value, value_of, form_value, Leaves}

abbrev after : Parts Act → Core → Outcome Core
after p c = outcome image_language p c

abbrev by : a.OperatorAct → Parts Act
by o = doing (operator o ∷ [])

-- what is found is put down
found_leaves : (x : Act) (f : Found ℤ) (c d : Core) → forgotten d ≡ forgotten c → Leaves (of_found f) c (and_then (of_effect d (settled x (found_in f (λ z. giving z c)))) (after end_parts))
found_leaves x (found v) c d h = refl
found_leaves x (at_fault k) c d h = (d, refl, h)

-- an operand and its operator
one_leaves : (x : Valued) (f : ℤ → Found ℤ) (o : a.OperatorAct) (p : Parts Act) (c : Core) → ((v : ℤ) → operate (operator o) (pushed v c) ≡ found_in (f v) (λ z. giving z c))
    → Leaves x c (after p c) → Leaves (of_one x f) c (after (p ▸ by o) c)
one_leaves (is v) f o p c acts h =
    subst (λ u. Leaves (of_found (f v)) c (and_then u (after (by o)))) (sym h)
    (subst (λ w. Leaves (of_found (f v)) c (and_then (of_effect (pushed v c) (settled (operator o) w)) (after end_parts))) (sym (acts v)) (found_leaves (operator o) (f v) c (pushed v c) refl))
one_leaves (fault k) f o p c acts (d, e, g) = (d, ap (λ u. and_then u (after (by o))) e, g)
one_leaves unsaid f o p c acts h = tt

-- two operands and their operator
right_leaves : (v : ℤ) (y : Valued) (f : ℤ → ℤ → Found ℤ) (o : a.OperatorAct) (q : Parts Act) (c : Core) → ((w : ℤ) → operate (operator o) (pushed w (pushed v c)) ≡ found_in (f v w) (λ z. giving z c))
    → Leaves y (pushed v c) (after q (pushed v c)) → Leaves (of_two (is v) y f) c (after (q ▸ by o) (pushed v c))
right_leaves v (is w) f o q c acts h =
    subst (λ u. Leaves (of_found (f v w)) c (and_then u (after (by o)))) (sym h)
    (subst (λ x. Leaves (of_found (f v w)) c (and_then (of_effect (pushed w (pushed v c)) (settled (operator o) x)) (after end_parts))) (sym (acts w)) (found_leaves (operator o) (f v w) c (pushed w (pushed v c)) refl))
right_leaves v (fault k) f o q c acts (d, e, g) = (d, ap (λ u. and_then u (after (by o))) e, g)
right_leaves v unsaid f o q c acts h = tt

two_leaves : (x y : Valued) (f : ℤ → ℤ → Found ℤ) (o : a.OperatorAct) (p q : Parts Act) (c : Core) → ((v w : ℤ) → operate (operator o) (pushed w (pushed v c)) ≡ found_in (f v w) (λ z. giving z c))
    → Leaves x c (after p c) → ((v : ℤ) → Leaves y (pushed v c) (after q (pushed v c))) → Leaves (of_two x y f) c (after (p ▸ q ▸ by o) c)
two_leaves (is v) y f o p q c acts h k =
    subst (λ u. Leaves (of_two (is v) y f) c (and_then u (after (q ▸ by o)))) (sym h) (right_leaves v y f o q c (acts v) (k v))
two_leaves (fault n) y f o p q c acts (d, e, g) k = (d, ap (λ u. and_then u (after (q ▸ by o))) e, g)
two_leaves unsaid y f o p q c acts h k = tt

-- what the operators of each form do
arithmetic_acts : (o : ArithmeticOperator) (k : Kind) (c : Core) (v w : ℤ) → operate (operator (arithmetic_act o k)) (pushed w (pushed v c)) ≡ found_in (arithmetic_value o k v w) (λ z. giving z c)
arithmetic_acts arithmetics.Power k c v w = refl
arithmetic_acts arithmetics.Multiply k c v w = refl
arithmetic_acts arithmetics.Divide k c v w = refl
arithmetic_acts arithmetics.Add k c v w = refl
arithmetic_acts arithmetics.Subtract k c v w = refl

relation_acts : (o : RelationalOperator) (c : Core) (v w : ℤ) → operate (operator (relation_act o)) (pushed w (pushed v c)) ≡ found_in (found (truth (relation_value o v w))) (λ z. giving z c)
relation_acts relations.Equal c v w = refl
relation_acts relations.NotEqual c v w = refl
relation_acts relations.Less c v w = refl
relation_acts relations.LessEqual c v w = refl
relation_acts relations.Greater c v w = refl
relation_acts relations.GreaterEqual c v w = refl

logic_acts : (o : LogicalOperator) (c : Core) (v w : ℤ) → operate (operator (logic_act o)) (pushed w (pushed v c)) ≡ found_in (found (truth (logic_value o v w))) (λ z. giving z c)
logic_acts logics.And c v w = refl
logic_acts logics.Or c v w = refl
logic_acts logics.Eqv c v w = refl
logic_acts logics.Neqv c v w = refl

-- a scalar variable
cell_leaves : (x : Act) (o : Option ℤ) (c : Core) → Leaves (of_cell o) c (and_then (of_effect c (settled x (given o (λ v. giving v c)))) (after end_parts))
cell_leaves x None c = tt
cell_leaves x (Some v) c = refl

scalar_leaves : (s : Scope) (x : ℕ) (c : Core) → Leaves (of_cell (variable_in s x (variables c))) c (and_then (of_effect c (settled (variable (a.cell s x)) (given (cell_in s x c) (λ v. giving v c)))) (after end_parts))
scalar_leaves here x c = cell_leaves (variable (a.cell here x)) (slice_get c.frame.cells x) c
scalar_leaves host x c = cell_leaves (variable (a.cell host x)) (slice_get (last_or c.frame c.callers).cells x) c

mutual
  pub expression_leaves : (e : Environment) (x : t.Expression) (c : Core) → Leaves (value_of x (variables c)) c (after (expression e x) c)
  expression_leaves e (t.typed f type rank) c = form_leaves e f (kind_of type) rank c

  form_leaves : (e : Environment) (f : t.Form) (k : Kind) (rank : ℕ) (c : Core) → Leaves (form_value f k rank (variables c)) c (after (form e f k rank) c)
  form_leaves e (t.number z) k rank c = refl
  form_leaves e (t.logical b) k rank c = refl
  form_leaves e (t.designator (t.part (objects.Local v) t.no_subscripts sel)) k zero c = scalar_leaves (scope_of v.home) v.variable c
  form_leaves e (t.parenthesized x) k rank c = expression_leaves e x c
  form_leaves e (t.plus x) k rank c = expression_leaves e x c
  form_leaves e (t.minus x) k rank c = one_leaves (value_of x (variables c)) (λ v. in_kind k (pos 0 -ℤ v)) (a.negate k) (expression e x) c (λ v. refl) (expression_leaves e x c)
  form_leaves e (t.not x) k rank c = one_leaves (value_of x (variables c)) (λ v. found (truth (not (is_true v)))) a.negation (expression e x) c (λ v. refl) (expression_leaves e x c)
  form_leaves e (t.arithmetic o x y) k rank c =
      two_leaves (value_of x (variables c)) (value_of y (variables c)) (arithmetic_value o k) (arithmetic_act o k) (expression e x) (expression e y) c (arithmetic_acts o k c) (expression_leaves e x c) (λ v. expression_leaves e y (pushed v c))
  form_leaves e (t.relation o x y) k rank c =
      two_leaves (value_of x (variables c)) (value_of y (variables c)) (λ v w. found (truth (relation_value o v w))) (relation_act o) (expression e x) (expression e y) c (relation_acts o c) (expression_leaves e x c) (λ v. expression_leaves e y (pushed v c))
  form_leaves e (t.logic o x y) k rank c =
      two_leaves (value_of x (variables c)) (value_of y (variables c)) (λ v w. found (truth (logic_value o v w))) (logic_act o) (expression e x) (expression e y) c (logic_acts o c) (expression_leaves e x c) (λ v. expression_leaves e y (pushed v c))
  form_leaves e f k rank c = tt
