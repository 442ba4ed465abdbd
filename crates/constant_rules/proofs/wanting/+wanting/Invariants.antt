use Rattle.std.proofs.Common.{◌≡◌, drop}
use Rattle.fortran_tree.specs.ExpressionViews as tree
use Rattle.rule_definitions.specs.Declarations as rules
use Rattle.constant_rules.specs.Wanting.{link_lacks_value}
use Rattle.constant_rules.proofs.wanting.+wanting.Given as goal

-- what is left lacks a value where the whole does

abbrev pub invariant-link_lacks_value-loop-link : goal.invariant-link_lacks_value-loop-link
invariant-link_lacks_value-loop-link l = link_lacks_value l.scope (drop l.link-index l.links) ≡ link_lacks_value l.scope l.links

abbrev pub invariant-argument_lacks_value-loop-argument : goal.invariant-argument_lacks_value-loop-argument
invariant-argument_lacks_value-loop-argument l = rules.argument_lacks_value l.scope (tree.arguments (drop l.argument-index l.arguments)) ≡ rules.argument_lacks_value l.scope (tree.arguments l.arguments)

abbrev pub invariant-item_lacks_value-loop-expr : goal.invariant-item_lacks_value-loop-expr
invariant-item_lacks_value-loop-expr l = rules.item_lacks_value l.scope (tree.expressions (drop l.expr-index l.exprs)) ≡ rules.item_lacks_value l.scope (tree.expressions l.exprs)

abbrev pub invariant-subscript_lacks_value-loop-subscript : goal.invariant-subscript_lacks_value-loop-subscript
invariant-subscript_lacks_value-loop-subscript l =
    rules.subscript_lacks_value l.scope (tree.section_subscripts (drop l.subscript-index l.subscripts)) ≡ rules.subscript_lacks_value l.scope (tree.section_subscripts l.subscripts)

abbrev pub invariant-specifier_lacks_value-loop-specifier : goal.invariant-specifier_lacks_value-loop-specifier
invariant-specifier_lacks_value-loop-specifier l = rules.specifier_lacks_value l.scope (tree.specifiers (drop l.specifier-index l.specifiers)) ≡ rules.specifier_lacks_value l.scope (tree.specifiers l.specifiers)
