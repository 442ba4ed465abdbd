-- Parts that stand together in several forms.
use Rattle.std.specs.Prelude.{ℕ, zero, suc, ◌+◌, Bool, List, [], ◌∷◌}
use Rattle.caf_base.specs.declared.value.Kind.{Kind}
use Rattle.walk_theory.specs.Syntax.{Parts}
use Rattle.checked_tree.specs.declared.data.Local.{Local}
use Rattle.checked_tree.specs.declared.expr.ArithmeticLink.{ArithmeticLink}
use Rattle.checked_tree.specs.declared.expr.ArithmeticOperator.{ArithmeticOperator}
use Rattle.checked_tree.specs.declared.expr.LogicLink.{LogicLink}
use Rattle.checked_tree.specs.declared.expr.LogicalOperator.{LogicalOperator}
use Rattle.checked_tree.specs.Expressions as t
use Rattle.checked_tree.specs.ExpressionViews as view
use Rattle.image_acts.specs.Places.{place_size}
use Rattle.image_acts.specs.Acts as a
use Rattle.image_acts.specs.Acts.{Act, Scope, stack, variable, bounded, selector}
use Rattle.tree_meaning.specs.Environment.{Environment, kind_of, scope_of}
use Rattle.tree_meaning.specs.Sequences.{◌▸◌, doing, nothing, dropping, copying, bringing}
use Rattle.tree_meaning.specs.Expressions.{expression, element_form, operating, arithmetic_act, logic_act, taking_cells, as_value, reading, needing_own, storing_status, stat_of, optional_size}

-- a value of this rank goes behind the elements of a constructor
abbrev pub ending_item : ℕ → Parts Act
ending_item zero = doing (stack a.take_cell ∷ stack a.append ∷ [])
ending_item (suc r) = doing (stack a.take_cells ∷ stack a.append_array ∷ [])

-- the part of a local array whose subscripts are on top
abbrev pub value_of_part : Scope → ℕ → ℕ → ℕ → Parts Act
value_of_part s x form rank = doing (bounded (a.section s x form) ∷ variable (a.load s x rank) ∷ []) ▸ taking_cells rank

-- reads the section whose place and owner are on top
abbrev pub accessing : ℕ → Bool → ℕ → t.Selector → Parts Act
accessing c scalar rank sel =
    needing_own c scalar sel ▸ reading c rank ▸ doing (stack a.accessed ∷ []) ▸ storing_status 1 (stat_of sel) ▸ dropping (optional_size (stat_of sel)) ▸ as_value rank

-- the owner by so many cosubscripts and a team, with the place of a STAT= variable of this size above them
abbrev pub owning : ℕ → ℕ → ℕ → ℕ → Parts Act
owning c rank count stat = bringing stat (place_size rank + (count + 1)) ▸ doing (selector (a.owner c rank count) ∷ [])

-- a result variable by its subscripts: how many numbers its place is, and the store of the number on top
abbrev pub size_at : t.Expressions → ℕ
size_at t.no_expressions = 0
size_at (t.more_expressions x es) = 1

abbrev pub storing_at : ℕ → Local → t.Expressions → Parts Act
storing_at depth v t.no_expressions = doing (variable (a.store (scope_of v.home) v.variable) ∷ [])
storing_at depth v (t.more_expressions x es) = copying depth 1 ▸ doing (variable (a.put (scope_of v.home) v.variable 0) ∷ [])

-- its place, by the subscripts that are on top
abbrev pub section_at : Local → t.Expressions → Parts Act
section_at v t.no_expressions = nothing
section_at v (t.more_expressions x es) = doing (bounded (a.section (scope_of v.home) v.variable (element_form (t.more_expressions x es))) ∷ [])

module _ (e : Environment) where
  -- an operator whose operands are there, and then further ones, each with its right operand
  abbrev pub arithmetic_operators : ArithmeticOperator → List ArithmeticLink → Kind → Parts Act
  arithmetic_operators o [] k = operating (arithmetic_act o k)
  arithmetic_operators o (x ∷ ks) k = operating (arithmetic_act o (kind_of x.left_type)) ▸ expression e (view.expression x.right) ▸ arithmetic_operators x.operator ks k

  abbrev pub logic_operators : LogicalOperator → List LogicLink → Parts Act
  logic_operators o [] = operating (logic_act o)
  logic_operators o (x ∷ ks) = operating (logic_act o) ▸ expression e (view.expression x.right) ▸ logic_operators x.operator ks
