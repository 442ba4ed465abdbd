use Rattle.std.proofs.Common.{rules, ◌∙◌, pos, ap}
use Rattle.std.specs.Prelude.{FitsSigned}
use Rattle.std.specs.Int.{w64}
use Rattle.std.proofs.lemmas.Int.{to_z-of_z}
use Rattle.image_acts.specs.Frames.{pairs_in}
use Rattle.image_acts.specs.Owning.{lowers_in}
use Rattle.coarray_tables.specs.Owns.{last_from}
use Rattle.coarray_tables.proofs.Allotments.{allotted_is}
use Rattle.coarray_tables.proofs.asks.allotted.Goals as goal

pub returns : goal.returns
returns c =
    let f : FitsSigned w64 c.last_lower-last.result = search rules in
    simp to_z-of_z (allotted_is c.args.coarray c.in_ok-dims.dims c.in_ok-codims.codims c.last_lower-last.result c.args.shape.now
    (c.in_ok-dims.ensures ∙ ap pairs_in c.as_slice.ensures) (c.in_ok-codims.ensures ∙ ap pairs_in c.as_slice-2.ensures)
    (c.last_lower-last.ensures ∙ ap (λ vs. last_from (pos 1) (lowers_in vs)) c.as_slice-3.ensures))
