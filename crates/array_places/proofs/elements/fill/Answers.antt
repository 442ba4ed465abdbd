use Rattle.std.proofs.Common.{rules, ◌≡◌, ◌≤◌, length, arith}
use Rattle.std.specs.Prelude.{FitsSigned}
use Rattle.std.specs.Int.{w128}
use Rattle.std.proofs.lemmas.Int.{to_z-of_z}
use Rattle.image_acts.specs.Places.{place_in, cells_of, offsets}
use Rattle.array_places.proofs.Counting.{offsets_length}
use Rattle.array_places.proofs.Reading.{fill_turn, put_end}
use Rattle.array_places.proofs.elements.fill.Goals as goal

pub loop-k-preserved : goal.loop-k-preserved
loop-k-preserved c =
    let f : FitsSigned w128 c.offset_at.result = search rules in
    let m = simp to_z-of_z at c.put_element.ensures in
    record {
      whole = c.loop-k.invariant.whole;
      same = fill_turn (offsets (place_in c.args.place.now)) c.loop-k.elements _ c.loop-k.k c.offset_at.result c.args.value.now c.put_element.new.elements c.offset_at.ensures m c.loop-k.invariant.same;
    }

pub returns : goal.returns
returns c =
    let n : length (offsets (place_in c.args.place.now)) ≡ cells_of (place_in c.args.place.now) = offsets_length (place_in c.args.place.now).start (place_in c.args.place.now).dims in
    let h : length (offsets (place_in c.args.place.now)) ≤ c.loop-k.k = omega arith in
    put_end (offsets (place_in c.args.place.now)) c.loop-k.elements _ c.loop-k.k _ h c.loop-k.invariant.same
