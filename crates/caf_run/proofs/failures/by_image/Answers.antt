use Rattle.std.proofs.Common.{◌≡◌, arith}
use Rattle.caf_run.proofs.FirstFailures.{by_images}
use Rattle.caf_run.proofs.failures.by_image.Goals as goal

pub returns : goal.returns
returns c =
    let all : c.loop-k.k ≡ 256 = omega arith in
    by_images c.args.fails.now c.loop-k.events.items c.requires (omega (arith, c.loop-k.invariant.count)) (λ j low. c.loop-k.invariant.each j (omega arith))
