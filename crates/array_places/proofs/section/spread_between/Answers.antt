use Rattle.std.proofs.Common.{◌≡◌, ◌-◌, ◌^◌, min, max, arith}
use Rattle.image_acts.specs.Frames.{pairs_in}
use Rattle.image_acts.specs.Places.{spread_of}
use Rattle.array_places.proofs.Ways.{spread_turn}
use Rattle.array_places.proofs.section.spread_between.Goals as goal

pub loop-lower-preserved : goal.loop-lower-preserved
loop-lower-preserved c =
    let n : c.max.result ≡ max 1 c.extent.result = omega (arith, c.max.ensures) in
    record {
      small = omega (arith, c.saturating_mul-cells.ensures);
      same = spread_turn c.loop-lower.cells c.saturating_mul-cells.result c.extent.result c.max.result (2 ^ 128 - 1) (min (spread_of (pairs_in c.args.bounds.now)) (2 ^ 128 - 1))
          c.in-Some.lower.now c.in-Some.upper.now c.loop-lower.left.now c.in-Some.rest.now c.in-Some.ensures.some c.extent.ensures n c.saturating_mul-cells.ensures c.loop-lower.invariant.same;
    }
