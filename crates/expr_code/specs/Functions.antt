-- The intrinsic functions, and bounds, as their code is made.
use Rattle.std.specs.Prelude.{ℕ, Bool, true, false, [], ◌∷◌}
use Rattle.walk_theory.specs.Syntax.{Parts}
use Rattle.caf_base.specs.declared.value.Kind.{Kind}
use Rattle.checked_tree.specs.declared.data.Object.{Object}
use Rattle.checked_tree.specs.declared.data.Object.TheVariants as objects
use Rattle.checked_tree.specs.Expressions as t
use Rattle.image_acts.specs.Places.{place_size}
use Rattle.image_acts.specs.Acts as a
use Rattle.image_acts.specs.Acts.{Act, Scope, stack, variable, bounded, selector}
use Rattle.tree_meaning.specs.Environment.{Environment, kind_of, scope_of, constant_place, procedure_in}
use Rattle.tree_meaning.specs.Sequences.{◌▸◌, doing, nothing, dropping, copying}
use Rattle.tree_meaning.specs.Expressions.{expression, intrinsic, items, subscripts, form_of, owner, optional_size, taking_cells}
use Rattle.expr_code.specs.Calls.{called}
use Rattle.expr_code.specs.declared.function.Extreme.{Extreme}
use Rattle.expr_code.specs.declared.function.Extreme.TheVariants as extremes

-- MIN and MAX of two
abbrev pub extreme_act : Extreme → a.OperatorAct
extreme_act extremes.Least = a.least
extreme_act extremes.Greatest = a.greatest

-- ALLOCATED
abbrev pub is_there : Object → Parts Act
is_there (objects.Local v) = doing (bounded (a.is_there (scope_of v.home) v.variable) ∷ [])
is_there (objects.Coarray c) = doing (bounded (a.co_is_there c) ∷ [])
is_there (objects.Constant n) = nothing

-- no subscripts: the whole object
abbrev pub is_whole : t.Subscripts → Bool
is_whole t.no_subscripts = true
is_whole (t.more_subscripts s ss) = false

-- the bounds of a local array, or of the section by the subscripts on top
abbrev pub local_bounds : Bool → Scope → (array form rank : ℕ) → Parts Act
local_bounds true s x form rank = doing (bounded (a.bounds s x) ∷ [])
local_bounds false s x form rank = doing (bounded (a.section s x form) ∷ bounded (a.section_bounds rank) ∷ [])

-- those of the section of a coarray whose place and owner are on top, with the place of a STAT= variable of this size
-- beneath
abbrev pub selected_bounds : (rank stat : ℕ) → Parts Act
selected_bounds rank stat = dropping 1 ▸ doing (bounded (a.section_bounds rank) ∷ []) ▸ dropping stat

-- the place of a part of a local array, by the subscripts on top, and its value
abbrev pub place_and_value : Scope → (array form rank : ℕ) → Parts Act
place_and_value s x form rank = doing (bounded (a.section s x form) ∷ []) ▸ copying 0 (place_size rank) ▸ doing (variable (a.load s x rank) ∷ []) ▸ taking_cells rank

-- SIZE by the bounds on top, and the dimension above them where there is one
abbrev pub extent_by : t.OptionalExpression → Parts Act
extent_by t.missing = doing (bounded a.size ∷ [])
extent_by (t.given d) = doing (bounded a.extent ∷ [])

module _ (e : Environment) where
  -- GET_TEAM
  abbrev pub team_of_level : t.OptionalExpression → Parts Act
  team_of_level t.missing = doing (selector a.this_team ∷ [])
  team_of_level (t.given x) = expression e x ▸ doing (selector a.get_team ∷ [])

  -- the bounds of the section of a coarray whose place is on top
  abbrev pub section_bounds_of : (c rank : ℕ) → t.Selector → Parts Act
  section_bounds_of c rank t.no_selector = doing (bounded (a.needs_own c) ∷ bounded (a.section_bounds rank) ∷ [])
  section_bounds_of c rank (t.selector cs which stat) = owner e c rank (t.selector cs which stat) ▸ selected_bounds rank (optional_size stat)

  -- the bounds of a coarray, or of the section by the subscripts on top
  abbrev pub coarray_bounds : Bool → (c form rank : ℕ) → t.Selector → Parts Act
  coarray_bounds true c form rank sel = doing (bounded (a.co_bounds c) ∷ [])
  coarray_bounds false c form rank sel = doing (bounded (a.co_section c form) ∷ []) ▸ section_bounds_of c rank sel

  -- the bounds of a variable, a constant array or a part of one: its subscripts, and then the bounds of what they
  -- select
  abbrev pub bounds_of_designator : t.Designator → ℕ → Parts Act
  bounds_of_designator (t.part (objects.Local v) ss sel) rank = subscripts e ss ▸ local_bounds (is_whole ss) (scope_of v.home) v.variable (form_of ss rank) rank
  bounds_of_designator (t.part (objects.Constant n) ss sel) rank = subscripts e ss ▸ local_bounds (is_whole ss) e.main (constant_place e n) (form_of ss rank) rank
  bounds_of_designator (t.part (objects.Coarray c) ss sel) rank = subscripts e ss ▸ coarray_bounds (is_whole ss) c (form_of ss rank) rank sel

  -- the bounds of an array, by its form, its kind and its rank; of a value they are known once it is there
  abbrev pub bounds_of_form : t.Form → Kind → ℕ → Parts Act
  bounds_of_form (t.designator d) k rank = bounds_of_designator d rank
  bounds_of_form (t.call n es) k rank = called e n (procedure_in e n) es ▸ doing (bounded a.value_bounds ∷ [])
  bounds_of_form (t.intrinsic i) k rank = intrinsic e i k ▸ doing (bounded a.value_bounds ∷ [])
  bounds_of_form (t.parenthesized x) k rank = expression e x ▸ doing (bounded a.value_bounds ∷ [])
  bounds_of_form (t.array_constructor es) k rank = doing (stack a.empty_array ∷ []) ▸ items e es ▸ doing (bounded a.value_bounds ∷ [])
  bounds_of_form f k rank = nothing

  -- the bounds of an array
  abbrev pub bounds_of_array : t.Expression → Parts Act
  bounds_of_array (t.typed f type rank) = bounds_of_form f (kind_of type) rank
