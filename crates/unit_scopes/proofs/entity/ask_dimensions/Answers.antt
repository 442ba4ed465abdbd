use Rattle.std.proofs.Common.{refl, map}
use Rattle.fortran_tree.specs.DeclarationViews.{dimension}
use Rattle.declaration_rules.specs.Shapes.{asked_dimension, dimension_asked_of}
use Rattle.scope_table.proofs.Orders.{item_drop}
use Rattle.unit_scopes.proofs.Turns.{turn_seen}
use Rattle.unit_scopes.proofs.entity.ask_dimensions.Goals as goal

pub loop-next-preserved : goal.loop-next-preserved
loop-next-preserved c =
    turn_seen asked_dimension (λ x. dimension_asked_of c.args.scope.now (dimension x)) (λ xs. map (dimension_asked_of c.args.scope.now) (map dimension xs)) (λ x xs. refl) c.args.dimensions.now c.loop-next.next-index c.next-item.result c.loop-next.all.items c.push.new.self.items c.in_ok-asked.asked _
    (item_drop c.args.dimensions.now c.loop-next.next-index c.next-item.result c.next-item.is c.loop-next-test.true) c.in_ok-asked.ensures c.in_ok-push.ensures.items c.loop-next.invariant
