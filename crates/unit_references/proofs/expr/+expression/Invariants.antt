use Rattle.std.proofs.Common.{◌≡◌, ◌++◌, drop}
use Rattle.fortran_tree.specs.ExpressionViews as view
use Rattle.unit_references.specs.Written.{link_names}
use Rattle.unit_references.specs.References as names
use Rattle.unit_references.proofs.expr.+expression.Given as goal

abbrev pub invariant-add_links-loop-link : goal.invariant-add_links-loop-link
invariant-add_links-loop-link l = l.refs ++ link_names (drop l.link-index l.links) ≡ l.initial.refs ++ link_names l.links

abbrev pub invariant-add_exprs-loop-expr : goal.invariant-add_exprs-loop-expr
invariant-add_exprs-loop-expr l = l.refs ++ names.expressions (view.expressions (drop l.expr-index l.exprs)) ≡ l.initial.refs ++ names.expressions (view.expressions l.exprs)

abbrev pub invariant-add_arguments-loop-argument : goal.invariant-add_arguments-loop-argument
invariant-add_arguments-loop-argument l = l.refs ++ names.arguments (view.arguments (drop l.argument-index l.arguments)) ≡ l.initial.refs ++ names.arguments (view.arguments l.arguments)

abbrev pub invariant-add_subscripts-loop-subscript : goal.invariant-add_subscripts-loop-subscript
invariant-add_subscripts-loop-subscript l = l.refs ++ names.section_subscripts (view.section_subscripts (drop l.subscript-index l.subscripts)) ≡ l.initial.refs ++ names.section_subscripts (view.section_subscripts l.subscripts)

abbrev pub invariant-add_specifiers-loop-specifier : goal.invariant-add_specifiers-loop-specifier
invariant-add_specifiers-loop-specifier l = l.refs ++ names.specifiers (view.specifiers (drop l.specifier-index l.specifiers)) ≡ l.initial.refs ++ names.specifiers (view.specifiers l.specifiers)
