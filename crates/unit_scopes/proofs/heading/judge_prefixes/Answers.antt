use Rattle.std.proofs.Common.{map}
use Rattle.fortran_tree.specs.UnitViews.{prefix_spec}
use Rattle.rule_definitions.specs.Units.{type_breaks, types_of}
use Rattle.declaration_rules.proofs.Shapes.{turn_notes}
use Rattle.scope_table.proofs.Orders.{item_drop}
use Rattle.unit_scopes.specs.Headings.{prefix_breaks}
use Rattle.unit_scopes.proofs.Heads.{prefix_more}
use Rattle.unit_scopes.proofs.heading.judge_prefixes.Goals as goal

pub loop-next-preserved : goal.loop-next-preserved
loop-next-preserved c =
    turn_notes (λ x. prefix_breaks c.args.scope.now (prefix_spec x)) (λ xs. type_breaks c.args.scope.now (types_of (map prefix_spec xs))) (λ x xs. prefix_more c.args.scope.now (prefix_spec x) (map prefix_spec xs))
    c.args.prefixes.now c.loop-next.next-index c.next-item.result c.loop-next.first c.judge_prefix.new.first _
    (item_drop c.args.prefixes.now c.loop-next.next-index c.next-item.result c.next-item.is c.loop-next-test.true) c.in_ok-judge_prefix.ensures c.loop-next.invariant
