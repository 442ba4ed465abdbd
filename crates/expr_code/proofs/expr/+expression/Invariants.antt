use Rattle.std.proofs.Common.{◌≡◌, drop}
use Rattle.checked_tree.specs.ExpressionViews as view
use Rattle.tree_meaning.specs.Expressions as meaning
use Rattle.expr_code.specs.Drafts.{written}
use Rattle.expr_code.specs.Environments.{environment}
use Rattle.expr_code.specs.Functions.{extreme_act}
use Rattle.expr_code.specs.Pieces.{arithmetic_operators, logic_operators}
use Rattle.expr_code.proofs.expr.+expression.Given as goal

-- what is written, and then what is left to write, is the whole

abbrev pub invariant-push_arithmetic_links-loop-link : goal.invariant-push_arithmetic_links-loop-link
invariant-push_arithmetic_links-loop-link l =
    written l.line (arithmetic_operators (environment l.env) l.operator (drop l.link-index l.links) l.kind) l.draft ≡ written l.line (arithmetic_operators (environment l.env) l.fn.first l.links l.kind) l.initial.draft

abbrev pub invariant-push_logic_links-loop-link : goal.invariant-push_logic_links-loop-link
invariant-push_logic_links-loop-link l =
    written l.line (logic_operators (environment l.env) l.operator (drop l.link-index l.links)) l.draft ≡ written l.line (logic_operators (environment l.env) l.fn.first l.links) l.initial.draft

abbrev pub invariant-push_exprs-loop-expr : goal.invariant-push_exprs-loop-expr
invariant-push_exprs-loop-expr l =
    written l.line (meaning.expressions (environment l.env) (view.expressions (drop l.expr-index l.exprs))) l.draft ≡ written l.line (meaning.expressions (environment l.env) (view.expressions l.exprs)) l.initial.draft

abbrev pub invariant-push_items-loop-value : goal.invariant-push_items-loop-value
invariant-push_items-loop-value l =
    written l.line (meaning.items (environment l.env) (view.expressions (drop l.value-index l.values))) l.draft ≡ written l.line (meaning.items (environment l.env) (view.expressions l.values)) l.initial.draft

abbrev pub invariant-push_subscripts-loop-subscript : goal.invariant-push_subscripts-loop-subscript
invariant-push_subscripts-loop-subscript l =
    written l.line (meaning.subscripts (environment l.env) (view.subscripts (drop l.subscript-index l.subscripts))) l.draft ≡ written l.line (meaning.subscripts (environment l.env) (view.subscripts l.subscripts)) l.initial.draft

abbrev pub invariant-push_extreme_of-loop-value : goal.invariant-push_extreme_of-loop-value
invariant-push_extreme_of-loop-value l =
    written l.line (meaning.folded (environment l.env) (extreme_act l.extreme) (view.expressions (drop l.value-index l.rest))) l.draft ≡ written l.line (meaning.folded (environment l.env) (extreme_act l.extreme) (view.expressions l.rest)) l.initial.draft

abbrev pub invariant-push_arguments-loop-argument : goal.invariant-push_arguments-loop-argument
invariant-push_arguments-loop-argument l =
    written l.line (meaning.arguments (environment l.env) l.variables (drop l.n l.dummies) (view.arguments (drop l.argument-index l.arguments))) l.draft ≡ written l.line (meaning.arguments (environment l.env) l.variables l.dummies (view.arguments l.arguments)) l.initial.draft
