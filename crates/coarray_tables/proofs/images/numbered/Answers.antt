use Rattle.std.proofs.Common.{rules, ◌∙◌, ap}
use Rattle.std.specs.Prelude.{FitsSigned}
use Rattle.std.specs.Int.{w128}
use Rattle.std.proofs.lemmas.Int.{to_z-of_z}
use Rattle.image_acts.specs.Owning.{lowers_in, extents_in}
use Rattle.image_acts.specs.Teams.{cosubscripts_behind}
use Rattle.array_places.specs.Images.{numbered_in, of_kind_4}
use Rattle.coarray_tables.proofs.Keeping.{number_behind}
use Rattle.coarray_tables.proofs.images.numbered.Goals as goal

pub returns-in-Some : goal.returns-in-Some
returns-in-Some c =
    let ss = cosubscripts_behind (lowers_in c.args.cobounds.now) (extents_in c.args.cobounds.now) c.args.images in
    let f : FitsSigned w128 c.in-Some.subscript = search rules in
    let m = simp to_z-of_z at c.in_kind.ensures in
    m ∙ ap of_kind_4 (c.in-Some.ensures ∙ number_behind ss c.natural-number.result c.if-number-eq0.false ∙ ap (numbered_in ss) c.natural-number.ensures)
