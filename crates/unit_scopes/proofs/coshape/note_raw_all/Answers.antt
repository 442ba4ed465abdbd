use Rattle.std.proofs.Common.{refl, map}
use Rattle.declaration_rules.specs.Bounds.{asked_bounds}
use Rattle.declaration_rules.specs.Shapes.{raw_bounds_asked}
use Rattle.declaration_rules.proofs.Shapes.{turn_notes, turn_clean}
use Rattle.scope_table.proofs.Orders.{item_drop}
use Rattle.unit_scopes.specs.Coshapes.{raw_all_asked}
use Rattle.unit_scopes.proofs.coshape.note_raw_all.Goals as goal

pub loop-next-preserved : goal.loop-next-preserved
loop-next-preserved c =
    let d = item_drop c.args.written.now c.loop-next.next-index c.next-item.result c.next-item.is c.loop-next-test.true in (
      turn_notes (λ x. raw_bounds_asked (asked_bounds x)) (λ xs. raw_all_asked (map asked_bounds xs)) (λ x xs. refl)
          c.args.written.now c.loop-next.next-index c.next-item.result c.loop-next.first c.note_raw_bounds-is_clean.new.first _ d c.note_raw_bounds-is_clean.ensures.first c.loop-next.invariant.0,
      turn_clean (λ x. raw_bounds_asked (asked_bounds x)) (λ xs. raw_all_asked (map asked_bounds xs)) (λ x xs. refl)
          c.args.written.now c.loop-next.next-index c.next-item.result c.loop-next.are_clean c.note_raw_bounds-is_clean.result c.both-are_clean.result _ d c.note_raw_bounds-is_clean.ensures.clean c.both-are_clean.ensures c.loop-next.invariant.1,
    )
