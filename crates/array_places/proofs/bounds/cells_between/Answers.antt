use Rattle.std.proofs.Common.{◌-◌, ◌^◌, min, arith}
use Rattle.coarray_types.specs.Places.{size_of}
use Rattle.image_acts.specs.Frames.{pairs_in}
use Rattle.array_places.proofs.Sizes.{size_turn}
use Rattle.array_places.proofs.bounds.cells_between.Goals as goal

pub loop-lower-preserved : goal.loop-lower-preserved
loop-lower-preserved c = record {
  small = omega (arith, c.saturating_mul-cells.ensures);
  same = size_turn c.loop-lower.cells c.saturating_mul-cells.result c.extent.result (2 ^ 128 - 1) (min (size_of (pairs_in c.args.bounds.now)) (2 ^ 128 - 1)) c.in-Some.lower.now c.in-Some.upper.now
      c.loop-lower.left.now c.in-Some.rest.now c.in-Some.ensures.some c.extent.ensures c.saturating_mul-cells.ensures c.loop-lower.invariant.same;
}
