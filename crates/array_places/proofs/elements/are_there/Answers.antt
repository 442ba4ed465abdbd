use Rattle.std.proofs.Common.{rules, ◌≡◌, ◌∙◌, ◌≤◌, length, sym, arith}
use Rattle.std.specs.Prelude.{None, slice_get, FitsSigned}
use Rattle.std.specs.Int.{w128}
use Rattle.std.proofs.lemmas.Int.{to_z-of_z}
use Rattle.caf_base.specs.Arithmetic.{natural}
use Rattle.image_acts.specs.Places.{place_in, cells_of, offsets}
use Rattle.array_places.proofs.Counting.{offsets_length}
use Rattle.array_places.proofs.Reading.{there_turn, there_not, there_end}
use Rattle.array_places.proofs.elements.are_there.Goals as goal

pub returns-in_default : goal.returns-in_default
returns-in_default c =
    let f : FitsSigned w128 c.offset_at.result = search rules in
    let m = simp to_z-of_z at c.element.ensures in
    let none : slice_get c.args.elements.now (natural c.offset_at.result) ≡ None = sym m ∙ c.in_default.is in
    there_not (offsets (place_in c.args.place.now)) c.args.elements.now c.loop-k.k c.offset_at.result _ c.offset_at.ensures c.loop-k.invariant.same none

pub loop-k-preserved : goal.loop-k-preserved
loop-k-preserved c =
    let f : FitsSigned w128 c.offset_at.result = search rules in
    let m = simp to_z-of_z at c.element.ensures in
    record {
      whole = c.loop-k.invariant.whole;
      same = there_turn (offsets (place_in c.args.place.now)) c.args.elements.now c.loop-k.k c.offset_at.result _ c.offset_at.ensures c.loop-k.invariant.same c.in-Some._value (sym m ∙ c.in-Some.is);
    }

pub returns : goal.returns
returns c =
    let n : length (offsets (place_in c.args.place.now)) ≡ cells_of (place_in c.args.place.now) = offsets_length (place_in c.args.place.now).start (place_in c.args.place.now).dims in
    let h : length (offsets (place_in c.args.place.now)) ≤ c.loop-k.k = omega arith in
    there_end (offsets (place_in c.args.place.now)) c.args.elements.now c.loop-k.k _ h c.loop-k.invariant.same
