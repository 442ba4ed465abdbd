-- Operators from the left: what a pair of operands and further operators stand for.
use Rattle.std.specs.Prelude.{ℤ, Bool, List, [], ◌∷◌, Option}
use Rattle.checked_tree.specs.ExpressionViews.{expression}
use Rattle.checked_tree.specs.declared.data.DataType.{DataType}
use Rattle.checked_tree.specs.declared.expr.ArithmeticOperator.{ArithmeticOperator}
use Rattle.checked_tree.specs.declared.expr.LogicalOperator.{LogicalOperator}
use Rattle.checked_tree.specs.declared.expr.ArithmeticLink.{ArithmeticLink}
use Rattle.checked_tree.specs.declared.expr.LogicLink.{LogicLink}
use Rattle.rule_definitions.specs.Names.{Scope}
use Rattle.rule_definitions.specs.Constants as k
use Rattle.constant_values.specs.Views.{integer_of, truth_of, of_numbers, of_truths}

-- the type of all before a link is the link's own; that of the whole is given
abbrev pub arithmetic_value : Scope → List ArithmeticLink → ArithmeticOperator → Option ℤ → Option ℤ → DataType → k.Constancy
arithmetic_value s [] o a b y = of_numbers (k.calculated o y) a b
arithmetic_value s (x ∷ xs) o a b y =
    arithmetic_value s xs x.operator (integer_of (of_numbers (k.calculated o x.left_type) a b)) (integer_of (k.known s (expression x.right)).constancy) y

abbrev pub logic_value : Scope → List LogicLink → LogicalOperator → Option Bool → Option Bool → k.Constancy
logic_value s [] o a b = of_truths (k.reasoned o) a b
logic_value s (x ∷ xs) o a b = logic_value s xs x.operator (truth_of (of_truths (k.reasoned o) a b)) (truth_of (k.known s (expression x.right)).constancy)
