use Rattle.std.proofs.Common.{rules, ◌∙◌, ℤ, pos, sym, ap}
use Rattle.std.specs.Prelude.{Option, Some, unwrap_or, FitsSigned}
use Rattle.std.specs.Int.{w64, w128}
use Rattle.std.proofs.lemmas.Int.{to_z-of_z}
use Rattle.image_acts.specs.Places.{place_in, offsets}
use Rattle.array_places.proofs.Reading.{value_there}
use Rattle.array_places.proofs.elements.element_at.Goals as goal

pub returns : goal.returns
returns c =
    let g : FitsSigned w64 c.unwrap_or.result = search rules in
    let f : FitsSigned w128 c.offset_at.result = search rules in
    let m = simp to_z-of_z at c.element.ensures in
    λ vs e. simp to_z-of_z (value_there (offsets (place_in c.args.place.now)) c.args.elements.now vs c.args.k c.offset_at.result e c.offset_at.ensures ∙ ap (λ (x : Option ℤ). Some (unwrap_or x (pos 0))) (sym m) ∙ ap Some (sym c.unwrap_or.ensures))
