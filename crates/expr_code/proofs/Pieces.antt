-- Counts, forms, and parts that depend on a rank or a number.
use Rattle.std.proofs.Common.{◌≡◌, ◌≢◌, ℕ, zero, suc, ◌+◌, ◌*◌, List, [], ◌∷◌, length, refl, ap, sym, ◌∙◌, arith}
use Rattle.std.specs.Prelude.{Option, Some, None, slice_get}
use Rattle.walk_theory.specs.Syntax.{Parts, either}
use Rattle.checked_tree.specs.declared.data.Variable.{Variable}
use Rattle.checked_tree.specs.declared.expr.TypedExpr.{TypedExpr}
use Rattle.checked_tree.specs.ExpressionViews as view
use Rattle.image_acts.specs.Acts as a
use Rattle.image_acts.specs.Acts.{Act, stack, bounded, ask}
use Rattle.tree_meaning.specs.Environment.{corank_of, corank_in}
use Rattle.tree_meaning.specs.Sequences.{◌▸◌, doing}
use Rattle.tree_meaning.specs.Expressions.{count_of, whole_form, taking_cells, as_value, reading}
use Rattle.expr_code.specs.Pieces.{ending_item}

pub counted : (xs : List TypedExpr) → count_of (view.expressions xs) ≡ length xs
counted [] = refl
counted (x ∷ xs) = ap suc (counted xs)

pub whole_form_next : (n : ℕ) → whole_form (n + 1) ≡ 2 + (10 * whole_form n)
whole_form_next n = let e : n + 1 ≡ suc n = omega arith in ap whole_form e

-- the corank of the variable that is there, if one is
abbrev pub corank_found : Option Variable → ℕ
corank_found None = 0
corank_found (Some v) = corank_of v.codimensions

pub corank_at : (vs : List Variable) (n : ℕ) → corank_in vs n ≡ corank_found (slice_get vs n)
corank_at [] n = refl
corank_at (v ∷ vs) zero = refl
corank_at (v ∷ vs) (suc n) = corank_at vs n

-- what is done for arrays
pub cells_of_array : (r : ℕ) → r ≢ 0 → taking_cells r ≡ doing (stack a.take_cells ∷ [])
cells_of_array zero h = absurd (h refl)
cells_of_array (suc r) h = refl

pub array_as_value : (r : ℕ) → r ≢ 0 → as_value r ≡ doing (stack a.take_cells ∷ [])
array_as_value zero h = absurd (h refl)
array_as_value (suc r) h = refl

pub array_item : (r : ℕ) → r ≢ 0 → ending_item r ≡ doing (stack a.take_cells ∷ stack a.append_array ∷ [])
array_item zero h = absurd (h refl)
array_item (suc r) h = refl

pub reading_array : (c r : ℕ) → r ≢ 0 → reading c r ≡ doing (bounded (a.some_cells 1 r) ∷ []) ▸ either (doing (ask (a.read c r) ∷ [])) (doing (stack (a.nothing_read r) ∷ [])) (doing [])
reading_array c zero h = absurd (h refl)
reading_array c (suc r) h = refl

pub ruleset some = (cells_of_array, array_as_value, array_item, reading_array)
