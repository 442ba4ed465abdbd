use Rattle.std.proofs.Common.{◌≡◌, ◌∙◌, ◌+◌, ◌*◌, ◌∷◌, ◌++◌, [], ℤ, List, pos, length, sym, ap, arith, append_assoc}
use Rattle.std.proofs.lemmas.List.{length-append}
use Rattle.image_acts.specs.Places.{no_place, place_numbers}
use Rattle.coarray_tables.proofs.Dims.{no_place_length, no_place_more}
use Rattle.coarray_tables.proofs.sections.no_place.Goals as goal

pub push-requires : goal.push-requires
push-requires c =
    let l : length c.loop-k.place ≡ 1 + 2 * c.loop-k.k = ap length c.loop-k.invariant ∙ no_place_length c.loop-k.k in
    let t = c.triplets_of-k-end.ensures.few in
    omega arith

pub push-requires-in-loop-k : goal.push-requires-in-loop-k
push-requires-in-loop-k c =
    let l : length c.loop-k.place ≡ 1 + 2 * c.loop-k.k = ap length c.loop-k.invariant ∙ no_place_length c.loop-k.k in
    let m = ap length c.push.ensures ∙ length-append c.loop-k.place (pos 1 ∷ []) in
    let t = c.triplets_of-k-end.ensures.few in
    omega arith

pub loop-k-preserved : goal.loop-k-preserved
loop-k-preserved c =
    c.push-in-loop-k.ensures ∙ ap (λ (vs : List ℤ). vs ++ pos 0 ∷ []) (c.push.ensures ∙ ap (λ (vs : List ℤ). vs ++ pos 1 ∷ []) c.loop-k.invariant)
    ∙ append_assoc (place_numbers (no_place c.loop-k.k)) (pos 1 ∷ []) (pos 0 ∷ []) ∙ sym (no_place_more c.loop-k.k)
