use Rattle.std.proofs.Common.{refl, map}
use Rattle.declaration_rules.specs.Shapes.{raw_dimension_asked, raw_dimensions_asked, asked_dimension}
use Rattle.declaration_rules.proofs.Shapes.{turn_notes, turn_clean}
use Rattle.scope_table.proofs.Orders.{item_drop}
use Rattle.declaration_rules.proofs.dimension.note_raw_dimensions.Goals as goal

pub loop-next-preserved : goal.loop-next-preserved
loop-next-preserved c =
    let d = item_drop c.args.written.now c.loop-next.next-index c.next-item.result c.next-item.is c.loop-next-test.true in (
      turn_notes (λ x. raw_dimension_asked (asked_dimension x)) (λ xs. raw_dimensions_asked (map asked_dimension xs)) (λ x xs. refl)
          c.args.written.now c.loop-next.next-index c.next-item.result c.loop-next.first c.note_raw_dimension-is_clean.new.first _ d c.note_raw_dimension-is_clean.ensures.first c.loop-next.invariant.0,
      turn_clean (λ x. raw_dimension_asked (asked_dimension x)) (λ xs. raw_dimensions_asked (map asked_dimension xs)) (λ x xs. refl)
          c.args.written.now c.loop-next.next-index c.next-item.result c.loop-next.are_clean c.note_raw_dimension-is_clean.result c.both-are_clean.result _ d c.note_raw_dimension-is_clean.ensures.clean c.both-are_clean.ensures c.loop-next.invariant.1,
    )
