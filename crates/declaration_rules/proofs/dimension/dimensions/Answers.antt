use Rattle.std.proofs.Common.{refl, map}
use Rattle.declaration_rules.specs.Shapes.{dimension_asked, dimensions_asked, known_dimension, asked_dimension}
use Rattle.declaration_rules.proofs.Shapes.{turn_notes, turn_made}
use Rattle.scope_table.proofs.Orders.{item_drop}
use Rattle.declaration_rules.proofs.dimension.dimensions.Goals as goal

pub loop-next-preserved : goal.loop-next-preserved
loop-next-preserved c =
    let d = item_drop c.args.written.now c.loop-next.next-index c.next-item.result c.next-item.is c.loop-next-test.true in (
      turn_notes (λ x. (dimension_asked c.args.allocates (asked_dimension x)).breaks) (λ xs. dimensions_asked c.args.allocates (map asked_dimension xs)) (λ x xs. refl)
          c.args.written.now c.loop-next.next-index c.next-item.result c.loop-next.first c.dimension-known.new.first _ d c.dimension-known.ensures.first c.loop-next.invariant.0,
      turn_made (λ x. known_dimension c.args.allocates (asked_dimension x))
          c.args.written.now c.loop-next.next-index c.next-item.result c.loop-next.all c.push.new.self c.dimension-known.result _ d c.dimension-known.ensures.bounds c.in_ok-push.ensures.pushed c.loop-next.invariant.1,
    )
