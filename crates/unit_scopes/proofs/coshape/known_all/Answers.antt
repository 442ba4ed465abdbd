use Rattle.std.proofs.Common.{refl, map}
use Rattle.declaration_rules.specs.Bounds.{asked_bounds, cobounds_asked}
use Rattle.declaration_rules.proofs.Shapes.{turn_notes}
use Rattle.scope_table.proofs.Orders.{item_drop}
use Rattle.unit_scopes.specs.Coshapes.{cobounds_breaks, known_cobounds}
use Rattle.unit_scopes.proofs.Turns.{turn_gives}
use Rattle.unit_scopes.proofs.coshape.known_all.Goals as goal

pub loop-next-preserved : goal.loop-next-preserved
loop-next-preserved c =
    let d = item_drop c.args.written.now c.loop-next.next-index c.next-item.result c.next-item.is c.loop-next-test.true in (
      turn_notes (λ x. (cobounds_asked (asked_bounds x)).breaks) (λ xs. cobounds_breaks (map asked_bounds xs)) (λ x xs. refl)
          c.args.written.now c.loop-next.next-index c.next-item.result c.loop-next.first c.cobounds-known.new.first _ d c.cobounds-known.ensures.first c.loop-next.invariant.0,
      turn_gives (λ x. known_cobounds (asked_bounds x)) (λ xs. map known_cobounds (map asked_bounds xs)) (λ x xs. refl)
          c.args.written.now c.loop-next.next-index c.next-item.result c.loop-next.all c.push.new.self c.cobounds-known.result _ d c.cobounds-known.ensures.bounds c.in_ok-push.ensures.pushed c.loop-next.invariant.1,
    )
