use Rattle.std.proofs.Common.{◌≡◌, ◌++◌, drop, map}
use Rattle.checked_tree.specs.ExpressionViews.{expressions, subscripts}
use Rattle.rule_definitions.specs.Constants as rules
use Rattle.constant_values.specs.Chains.{arithmetic_value, logic_value}
use Rattle.constant_values.specs.Views.{plain_subscript, subscript}
use Rattle.constant_values.proofs.expression.+known.Given as goal

abbrev pub invariant-arithmetic_links-loop-link : goal.invariant-arithmetic_links-loop-link
invariant-arithmetic_links-loop-link l =
    arithmetic_value l.scope (drop l.link-index l.links) l.operator l.left l.right l.of_type ≡ arithmetic_value l.scope l.links l.initial.operator l.initial.left l.initial.right l.of_type

abbrev pub invariant-logic_links-loop-link : goal.invariant-logic_links-loop-link
invariant-logic_links-loop-link l =
    logic_value l.scope (drop l.link-index l.links) l.operator l.left l.right ≡ logic_value l.scope l.links l.initial.operator l.initial.left l.initial.right

abbrev pub invariant-known_items-loop-expr : goal.invariant-known_items-loop-expr
invariant-known_items-loop-expr l =
    (rules.joined_values l.list.values (rules.known_items l.scope (expressions (drop l.expr-index l.exprs))).items ≡ (rules.known_items l.scope (expressions l.exprs)).items)
    × (rules.sum_of l.list.count (rules.known_items l.scope (expressions (drop l.expr-index l.exprs))).count ≡ (rules.known_items l.scope (expressions l.exprs)).count)

abbrev pub invariant-known_subscripts-loop-subscript : goal.invariant-known_subscripts-loop-subscript
invariant-known_subscripts-loop-subscript l =
    map subscript l.sections ++ map plain_subscript (rules.known_subscripts l.scope (subscripts (drop l.subscript-index l.written))) ≡ map plain_subscript (rules.known_subscripts l.scope (subscripts l.written))
