use Rattle.std.proofs.Common.{map}
use Rattle.fortran_tree.specs.DeclarationViews.{attribute}
use Rattle.rule_definitions.specs.Declarations.{attribute_breaks}
use Rattle.declaration_rules.proofs.Shapes.{turn_notes}
use Rattle.scope_table.proofs.Orders.{item_drop}
use Rattle.unit_scopes.specs.Heads.{one_attribute_breaks}
use Rattle.unit_scopes.proofs.Laws.{attribute_more}
use Rattle.unit_scopes.proofs.declare.note_attributes.Goals as goal

pub loop-next-preserved : goal.loop-next-preserved
loop-next-preserved c =
    turn_notes (λ x. one_attribute_breaks c.args.scope.now (attribute x)) (λ xs. attribute_breaks c.args.scope.now (map attribute xs)) (λ x xs. attribute_more c.args.scope.now (attribute x) (map attribute xs))
    c.args.written.now c.loop-next.next-index c.next-item.result c.loop-next.first c.note_attribute.new.first _
    (item_drop c.args.written.now c.loop-next.next-index c.next-item.result c.next-item.is c.loop-next-test.true) c.in_ok-note_attribute.ensures c.loop-next.invariant
