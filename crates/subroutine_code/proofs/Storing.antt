-- The store of a result variable.
use Rattle.std.proofs.Common.{◌≡◌, ℕ, ◌+◌, refl}
use Rattle.walk_theory.specs.Made.{parts_size}
use Rattle.checked_tree.specs.Expressions as t
use Rattle.tree_meaning.specs.Expressions.{storing, result_size}

-- one step for a scalar variable, two for an element
pub store_size : (depth : ℕ) (r : t.ResultVariable) → parts_size (storing depth r) ≡ result_size r + 1
store_size depth (t.result_variable v t.no_expressions k) = refl
store_size depth (t.result_variable v (t.more_expressions x es) k) = refl
