-- Results of statements.
use Rattle.std.proofs.Common.{◌≤◌, arith}
use Rattle.checked_tree.specs.Expressions as t
use Rattle.tree_meaning.specs.Expressions.{result_size, optional_size}

-- the place of a result variable is one number at most
pub small_result : (r : t.ResultVariable) → result_size r ≤ 1
small_result (t.result_variable v t.no_expressions k) = omega arith
small_result (t.result_variable v (t.more_expressions x es) k) = omega arith

pub small_optional : (r : t.OptionalResult) → optional_size r ≤ 1
small_optional t.no_result = omega arith
small_optional (t.result r) = small_result r
