use Rattle.std.proofs.Common.{◌≡◌, suc, ◌+◌, ◌∙◌, [], ◌∷◌, ◌++◌, ap, sym, arith}
use Rattle.std.specs.List.{range_with_len}
use Rattle.wait_chain.proofs.Least.{range_last}
use Rattle.wait_chain.proofs.told.numbers_to.Goals as goal

pub loop-number-preserved : goal.loop-number-preserved
loop-number-preserved c =
    let more : suc c.loop-number.number ≡ c.loop-number.number + 1 = omega arith in
    c.in_ok-push.ensures.items ∙ ap (λ z. z ++ (c.loop-number.number + 1) ∷ []) c.loop-number.invariant ∙ sym (range_last 1 c.loop-number.number (c.loop-number.number + 1) (omega arith)) ∙ ap (range_with_len 1) more
