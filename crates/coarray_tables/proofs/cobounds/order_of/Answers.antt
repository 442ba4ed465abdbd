use Rattle.std.proofs.Common.{rules, ◌≡◌, ◌∙◌, ◌∷◌, ◌-◌, ◌*◌, ◌^◌, ℕ, min, ap}
use Rattle.image_acts.specs.Owning.{extents_in, lowers_in}
use Rattle.array_places.proofs.Orders.{digit, order_turn}
use Rattle.coarray_tables.proofs.Counting.{capped_right}
use Rattle.coarray_tables.proofs.cobounds.order_of.Goals as goal

pub loop-lower-preserved : goal.loop-lower-preserved
loop-lower-preserved c =
    let split : c.loop-lower.more.now ≡ c.in-Some.lower.now ∷ c.in-Some.upper.now ∷ c.in-Some.further.now = search rules in
    let z : c.loop-lower.left.now ≡ c.in_ok-subscript.subscript.now ∷ c.in_ok-subscript.rest.now = search rules in
    order_turn c.loop-lower.order c.loop-lower.weight c.in-Some.lower.now _ c.in_ok-subscript.subscript.now (lowers_in c.in-Some.further.now) (extents_in c.in-Some.further.now)
    c.in_ok-subscript.rest.now (lowers_in c.loop-lower.more.now) (extents_in c.loop-lower.more.now) c.loop-lower.left.now (ap lowers_in split) (ap extents_in split) z
    c.in_ok-digit.digit c.order_behind-order.result c.saturating_mul-weight.result
    (c.in_ok-digit.ensures ∙ ap (digit c.in-Some.lower.now c.in_ok-subscript.subscript.now) c.width_between-width.ensures) c.order_behind-order.ensures
    (c.saturating_mul-weight.ensures ∙ ap (λ (k : ℕ). min (c.loop-lower.weight * k) (2 ^ 64 - 1)) c.word_of.ensures ∙ capped_right c.loop-lower.weight c.width_between-width.result (2 ^ 64 - 1)
    ∙ ap (λ (k : ℕ). min (c.loop-lower.weight * k) (2 ^ 64 - 1)) c.width_between-width.ensures)
    ∙ c.loop-lower.invariant
