use Rattle.std.proofs.Common.{◌-◌, ◌^◌, arith}
use Rattle.image_acts.specs.Places.{place_in, cells_of}
use Rattle.std.specs.Prelude.{min}
use Rattle.array_places.proofs.Counting.{count_turn, count_end}
use Rattle.array_places.proofs.place.cells_in.Goals as goal

pub loop-count-preserved : goal.loop-count-preserved
loop-count-preserved c = record {
  small = omega (arith, c.saturating_mul-cells.ensures);
  same = count_turn c.loop-count.cells c.saturating_mul-cells.result c.natural.result (2 ^ 64 - 1) (min (cells_of (place_in c.args.place.now)) (2 ^ 64 - 1)) c.in-Some.count.now c.in-Some._step.now
      c.loop-count.left.now c.in-Some.rest.now c.in-Some.ensures.some c.natural.ensures c.saturating_mul-cells.ensures c.loop-count.invariant.same;
}

pub returns : goal.returns
returns c =
    count_end c.loop-count.cells (2 ^ 64 - 1) (min (cells_of (place_in c.args.place.now)) (2 ^ 64 - 1)) c.loop-count.left.now c.in_default.ensures.none
    c.loop-count.invariant.small c.loop-count.invariant.same
