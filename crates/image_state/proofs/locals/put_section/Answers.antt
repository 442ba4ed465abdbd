use Rattle.std.proofs.Common.{◌≡◌, ◌∙◌, ◌<◌, ◌∷◌, ℕ, ℤ, List, ap, sym, subst, arith, length, take, w64, rules}
use Rattle.std.proofs.lemmas.Int.{to_z-of_z}
use Rattle.image_acts.specs.Core.{Array, elements_in}
use Rattle.image_acts.specs.Places.{cells_of, extents_of, place_in}
use Rattle.array_values.specs.Values.{Values, lengthened}
use Rattle.image_state.proofs.SectionLaws.{all_taken, lengthened_same, lengthened_some, lengthened_total, topped, values_are}
use Rattle.image_state.proofs.locals.put_section.Goals as goal

pub loop-k-preserved : goal.loop-k-preserved
loop-k-preserved c =
    let e = ap (λ (x : Values). x.arrays) c.lengthen.ensures ∙ ap (λ (z : ℤ). lengthened z c.loop-k.arrays.arrays) (to_z-of_z w64 c.element_at.result (search rules)) in
    let t = ap elements_in e ∙ lengthened_total c.element_at.result c.loop-k.arrays.arrays c.loop-k.invariant.some in
    let u = c.loop-k.invariant.total in
    record {
      most = ap (λ (x : Values). x.most) c.lengthen.ensures ∙ c.loop-k.invariant.most;
      size = ap (λ (x : Values). x.size) c.lengthen.ensures ∙ c.loop-k.invariant.size;
      some = subst (λ (xs : List Array). 0 < length xs) (sym e) (lengthened_some c.element_at.result c.loop-k.arrays.arrays c.loop-k.invariant.some);
      total = omega arith;
      same = λ vs h. e ∙ lengthened_same (extents_of (place_in c.args.place.now)) vs c.loop-k.arrays.arrays c.args.arrays.now.arrays c.loop-k.k c.element_at.result (c.loop-k.invariant.same vs h) (c.element_at.ensures vs h);
    }

pub returns-clause-same : goal.returns-clause-same
returns-clause-same c = λ vs h.
    let a = c.cells_in-cells.ensures in
    let b = c.requires.small in
    let d = c.loop-k.auto.k-end in
    let f = c.loop-k-test.false in
    let n : c.loop-k.k ≡ cells_of (place_in c.args.place.now) = omega arith in
    let e = c.loop-k.invariant.same vs h ∙ ap (λ (k : ℕ). topped (extents_of (place_in c.args.place.now)) c.args.arrays.now.arrays (take k vs)) n
    ∙ ap (topped (extents_of (place_in c.args.place.now)) c.args.arrays.now.arrays) (all_taken (place_in c.args.place.now) c.args.elements.now vs h) in
    values_are c.loop-k.arrays (record { extents = extents_of (place_in c.args.place.now); elements = vs } ∷ c.args.arrays.now.arrays) c.args.arrays.now.most c.args.arrays.now.size e c.loop-k.invariant.most c.loop-k.invariant.size
