use Rattle.std.proofs.Common.{rules, ◌∙◌, ◌^◌, ◌<◌, ◌≤◌, sym, ap, arith, to_z}
use Rattle.std.specs.Prelude.{unsigned_abs, FitsSigned, Some}
use Rattle.std.specs.Int.{w64, w128}
use Rattle.std.proofs.lemmas.Int.{to_z-of_z, ints}
use Rattle.image_acts.specs.Places.{dims_in}
use Rattle.array_places.proofs.Counting.{offset_turn, count_there, near_turn, offset_end, offset_there}
use Rattle.array_places.proofs.place.offset_from.Goals as goal

pub loop-count-preserved : goal.loop-count-preserved
loop-count-preserved c =
    let there = count_there c.loop-count.number c.natural-count.result c.in-Some.count.now c.in-Some.step.now c.loop-count.left.now c.in-Some.rest.now c.in-Some.ensures.some c.natural-count.ensures
    c.loop-count.invariant.within in
    let some : 0 < c.natural-count.result = there.0 in
    let f : FitsSigned w128 c.moved-at.result = search rules in
    let s : FitsSigned w64 c.in-Some.step.now = search rules in
    let small : unsigned_abs c.in-Some.step.now ≤ 2 ^ 63 = omega (arith, ints) in
    let m = simp to_z-of_z at c.moved-at.ensures in
    record {
      within = there.1;
      less = omega arith;
      near = simp to_z-of_z (near_turn (to_z w128 c.loop-count.at-bits) c.moved-at.result c.in-Some.step.now c.loop-count.number c.args.k c.natural-count.result small some m c.loop-count.invariant.near);
      same = simp to_z-of_z (offset_turn (to_z w128 c.loop-count.at-bits) c.moved-at.result c.loop-count.number c.natural-count.result c.in-Some.count.now c.in-Some.step.now _ c.loop-count.left.now
          c.in-Some.rest.now c.in-Some.ensures.some c.natural-count.ensures m c.loop-count.invariant.same);
    }

pub returns : goal.returns
returns c =
    let g : FitsSigned w64 c.args.start = search rules in
    offset_there c.args.start (dims_in c.args.dims.now) c.args.k c.requires
    ∙ ap Some (sym (offset_end (to_z w128 c.loop-count.at-bits) c.loop-count.number _ c.loop-count.left.now c.in_default.ensures.none (simp to_z-of_z at c.loop-count.invariant.same)))
