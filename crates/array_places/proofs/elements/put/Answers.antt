use Rattle.std.proofs.Common.{rules, ◌≡◌, ◌≤◌, ◌∷◌, length, arith}
use Rattle.std.specs.Prelude.{FitsSigned}
use Rattle.std.specs.Int.{w128}
use Rattle.std.proofs.lemmas.Int.{to_z-of_z}
use Rattle.image_acts.specs.Places.{place_in, cells_of, offsets}
use Rattle.array_places.proofs.Counting.{offsets_length}
use Rattle.array_places.proofs.Reading.{put_turn, put_end, put_all}
use Rattle.array_places.proofs.elements.put.Goals as goal

pub returns-then-k-cells : goal.returns-then-k-cells
returns-then-k-cells c =
    let n : length (offsets (place_in c.args.place.now)) ≡ cells_of (place_in c.args.place.now) = offsets_length (place_in c.args.place.now).start (place_in c.args.place.now).dims in
    let h : length (offsets (place_in c.args.place.now)) ≤ c.loop-value.k = omega arith in
    put_end (offsets (place_in c.args.place.now)) c.loop-value.elements _ c.loop-value.k c.loop-value.left.now h c.loop-value.invariant.same

pub loop-value-preserved : goal.loop-value-preserved
loop-value-preserved c =
    let split : c.loop-value.left.now ≡ c.in-Some.value.now ∷ c.in-Some.rest.now = search rules in
    let f : FitsSigned w128 c.offset_at.result = search rules in
    let m = simp to_z-of_z at c.put_element.ensures in
    record {
      whole = c.loop-value.invariant.whole;
      within = omega arith;
      same = put_turn (offsets (place_in c.args.place.now)) c.loop-value.elements _ c.loop-value.k c.loop-value.left.now c.in-Some.rest.now c.offset_at.result c.in-Some.value.now c.put_element.new.elements
          c.offset_at.ensures split m c.loop-value.invariant.same;
    }

pub returns : goal.returns
returns c =
    let none : length c.loop-value.left.now ≡ 0 = search rules in
    put_all (offsets (place_in c.args.place.now)) c.loop-value.elements _ c.loop-value.k c.loop-value.left.now none c.loop-value.invariant.same
