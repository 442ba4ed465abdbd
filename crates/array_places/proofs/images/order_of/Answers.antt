use Rattle.std.proofs.Common.{rules, ◌≡◌, ◌∙◌, ◌∷◌, ◌-◌, ◌*◌, ◌^◌, ℕ, min, ap}
use Rattle.array_places.proofs.Orders.{digit, order_turn}
use Rattle.array_places.proofs.images.order_of.Goals as goal

pub loop-extent-preserved : goal.loop-extent-preserved
loop-extent-preserved c =
    let x : c.loop-extent.lows.now ≡ c.in_ok-lower.lower.now ∷ c.in_ok-lower.behind.now = search rules in
    let y : c.loop-extent.more.now ≡ c.in-Some.extent.now ∷ c.in-Some.further.now = search rules in
    let z : c.loop-extent.left.now ≡ c.in_ok-subscript.subscript.now ∷ c.in_ok-subscript.rest.now = search rules in
    order_turn c.loop-extent.order c.loop-extent.weight c.in_ok-lower.lower.now c.in-Some.extent.now c.in_ok-subscript.subscript.now c.in_ok-lower.behind.now c.in-Some.further.now
    c.in_ok-subscript.rest.now c.loop-extent.lows.now c.loop-extent.more.now c.loop-extent.left.now x y z
    c.in_ok-digit.digit c.order_behind-order.result c.saturating_mul-weight.result
    (c.in_ok-digit.ensures ∙ ap (digit c.in_ok-lower.lower.now c.in_ok-subscript.subscript.now) c.width_of.ensures) c.order_behind-order.ensures
    (c.saturating_mul-weight.ensures ∙ ap (λ (k : ℕ). min (c.loop-extent.weight * k) (2 ^ 64 - 1)) c.width_of-in-Some.ensures)
    ∙ c.loop-extent.invariant
