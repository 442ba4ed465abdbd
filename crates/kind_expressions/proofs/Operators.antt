-- Operators of expressions: what is known behind each, by its operands.
use Rattle.std.proofs.Common.{◌≡◌, ℕ, Bool, [], ◌∷◌, refl, sym, subst}
use Rattle.std.specs.Prelude.{Option, None, Some}
use Rattle.caf_base.specs.declared.value.Kind.{Kind}
use Rattle.caf_base.specs.declared.value.Kind.TheVariants as kinds
use Rattle.caf_base.specs.Arithmetic.{truth}
use Rattle.checked_tree.specs.declared.data.DataType.{DataType}
use Rattle.checked_tree.specs.declared.data.DataType.TheVariants as types
use Rattle.checked_tree.specs.declared.expr.ArithmeticOperator.{ArithmeticOperator}
use Rattle.checked_tree.specs.declared.expr.ArithmeticOperator.TheVariants as arithmetics
use Rattle.checked_tree.specs.declared.expr.RelationalOperator.{RelationalOperator}
use Rattle.checked_tree.specs.declared.expr.RelationalOperator.TheVariants as relations
use Rattle.checked_tree.specs.declared.expr.LogicalOperator.{LogicalOperator}
use Rattle.checked_tree.specs.declared.expr.LogicalOperator.TheVariants as logics
use Rattle.checked_tree.specs.declared.expr.WrittenOrder.{WrittenOrder}
use Rattle.checked_tree.specs.declared.expr.WrittenOrder.TheVariants as orders
use Rattle.walk_theory.specs.Syntax.{Parts}
use Rattle.image_acts.specs.Acts as a
use Rattle.image_acts.specs.Acts.{Act, operator}
use Rattle.tree_meaning.specs.Environment as meaning
use Rattle.tree_meaning.specs.Expressions as view
use Rattle.kind_walks.specs.Kinds.{Widens, IsOf, Typing, with_number, with_array}
use Rattle.kind_walks.proofs.Frames.{widened}
use Rattle.kind_walks.proofs.StackActs as acts
use Rattle.kind_walks.proofs.StackActs.{Acts}
use Rattle.kind_expressions.specs.Kinded.{kind_of}
use Rattle.kind_expressions.proofs.VariableActs.{result}
use Rattle.kind_expressions.proofs.Goes.{Setting, Goes, ◌⨾◌, one_act, known_as, wide_number, wide_result, goes_bringing}

pub itself : (k : Kind) → Widens (Some k) (Some k)
itself kinds.I4 = tt
itself kinds.I8 = tt
itself kinds.L4 = tt

pub always : (k : Option Kind) → Widens k k
always None = tt
always (Some k) = itself k

-- a number of a type's kind is one of the type
pub of_type : (y : DataType) → Widens (Some (meaning.kind_of y)) (kind_of y)
of_type (types.Intrinsic k) = itself k
of_type types.Team = tt
of_type types.Event = tt
of_type types.Lock = tt

module _ (w : Setting) where
  -- a value of rank 0
  pub of_rank_0 : (k : Option Kind) (s : Typing) (r : ℕ) → r ≡ 0 → {p : Parts Act} → Goes w s p (with_number k s) → Goes w s p (result k r s)
  of_rank_0 k s r e {p} h = subst (λ m. Goes w s p (result k m s)) (sym e) h

  pub as_rank_0 : (k : Option Kind) (s : Typing) (r : ℕ) → r ≡ 0 → {p : Parts Act} → Goes w s p (result k r s) → Goes w s p (with_number k s)
  as_rank_0 k s r e {p} h = subst (λ m. Goes w s p (result k m s)) e h

  -- a value of a narrower kind
  pub of_kind : (j k : Option Kind) → Widens j k → (s : Typing) → {p : Parts Act} → Goes w s p (with_number j s) → Goes w s p (with_number k s)
  of_kind j k x s h = known_as w s (with_number j s) (with_number k s) (wide_number w.images j k x s) h

  pub value_of_kind : (j k : Option Kind) → Widens j k → (r : ℕ) (s : Typing) → {p : Parts Act} → Goes w s p (result j r s) → Goes w s p (result k r s)
  value_of_kind j k x r s h = known_as w s (result j r s) (result k r s) (wide_result w.images j k x r s) h

  -- a logical value
  pub of_truth : (k : Option Kind) → Widens (Some kinds.L4) k → (b : Bool) → IsOf k (truth b)
  of_truth k x b = widened (Some kinds.L4) k x (truth b) refl

  pub goes_operating : (o : a.OperatorAct) (s t : Typing) → Acts w.coarrays w.images s (operator o) t → Goes w s (view.operating o) t
  goes_operating o s t h = one_act w s (operator o) t h

  module _ (i l : Option Kind) (s : Typing) where
    abbrev both_given : Typing
    both_given = with_number l (with_number i s)

    pub goes_arithmetic : (o : ArithmeticOperator) (k : Kind) → Goes w both_given (view.operating (view.arithmetic_act o k)) (with_number (Some k) s)
    goes_arithmetic arithmetics.Power k = goes_operating (a.power k) both_given (with_number (Some k) s) (acts.acts_power w.coarrays w.images i l s k)
    goes_arithmetic arithmetics.Multiply k = goes_operating (a.multiply k) both_given (with_number (Some k) s) (acts.acts_multiply w.coarrays w.images i l s k)
    goes_arithmetic arithmetics.Divide k = goes_operating (a.divide k) both_given (with_number (Some k) s) (acts.acts_divide w.coarrays w.images i l s k)
    goes_arithmetic arithmetics.Add k = goes_operating (a.add k) both_given (with_number (Some k) s) (acts.acts_add w.coarrays w.images i l s k)
    goes_arithmetic arithmetics.Subtract k = goes_operating (a.subtract k) both_given (with_number (Some k) s) (acts.acts_subtract w.coarrays w.images i l s k)

    abbrev told : Typing
    told = with_number (Some kinds.L4) s

    pub goes_relation : (o : RelationalOperator) → Goes w both_given (view.operating (view.relation_act o)) told
    goes_relation relations.Equal = goes_operating a.equal both_given told (acts.acts_equal w.coarrays w.images i l s)
    goes_relation relations.NotEqual = goes_operating a.differ both_given told (acts.acts_differ w.coarrays w.images i l s)
    goes_relation relations.Less = goes_operating a.less both_given told (acts.acts_less w.coarrays w.images i l s)
    goes_relation relations.LessEqual = goes_operating a.at_most both_given told (acts.acts_at_most w.coarrays w.images i l s)
    goes_relation relations.Greater = goes_operating a.greater both_given told (acts.acts_greater w.coarrays w.images i l s)
    goes_relation relations.GreaterEqual = goes_operating a.at_least both_given told (acts.acts_at_least w.coarrays w.images i l s)

    pub goes_logic : (o : LogicalOperator) → Goes w both_given (view.operating (view.logic_act o)) told
    goes_logic logics.And = goes_operating a.both both_given told (acts.acts_both w.coarrays w.images i l s)
    goes_logic logics.Or = goes_operating a.any_of both_given told (acts.acts_any w.coarrays w.images i l s)
    goes_logic logics.Eqv = goes_operating a.equal both_given told (acts.acts_equal w.coarrays w.images i l s)
    goes_logic logics.Neqv = goes_operating a.differ both_given told (acts.acts_differ w.coarrays w.images i l s)

  -- two numbers, evaluated as they are written
  pub goes_written : (o : WrittenOrder) (i l : Option Kind) (s : Typing) {p q : Parts Act} → Goes w s p (with_number i s) → Goes w (with_number i s) q (with_number l (with_number i s)) → Goes w s q (with_number l s)
      → Goes w (with_number l s) p (with_number i (with_number l s)) → Goes w s (view.as_written o p q) (with_number l (with_number i s))
  goes_written orders.Same i l s f g g' f' = f ⨾ g
  goes_written orders.Reversed i l s f g g' f' = g' ⨾ f' ⨾ goes_bringing w s (i ∷ []) (l ∷ []) 1 1 refl refl

  -- an array and a number
  pub goes_beside : (o : WrittenOrder) (k l : Option Kind) (s : Typing) {p q : Parts Act} → Goes w s p (with_array k s) → Goes w (with_array k s) q (with_number l (with_array k s)) → Goes w s q (with_number l s)
      → Goes w (with_number l s) p (with_array k (with_number l s)) → Goes w s (view.beside_as_written o p q) (with_number l (with_array k s))
  goes_beside orders.Same k l s f g g' f' = f ⨾ g
  goes_beside orders.Reversed k l s f g g' f' = g' ⨾ f'
