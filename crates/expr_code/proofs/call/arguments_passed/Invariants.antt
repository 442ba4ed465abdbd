use Rattle.std.proofs.Common.{◌≡◌, ◌++◌, drop, map}
use Rattle.checked_tree.specs.ExpressionViews as view
use Rattle.tree_meaning.specs.Expressions.{passed}
use Rattle.expr_code.specs.Calls.{passed_argument}
use Rattle.expr_code.proofs.call.arguments_passed.Given as goal

abbrev pub invariant-loop-argument : goal.invariant-loop-argument
invariant-loop-argument l =
    map passed_argument l.passed.items ++ passed l.variables (drop l.n l.dummies) (view.arguments (drop l.argument-index l.arguments)) ≡ passed l.variables l.dummies (view.arguments l.arguments)
