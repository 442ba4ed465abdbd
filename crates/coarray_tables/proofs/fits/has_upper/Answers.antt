use Rattle.std.proofs.Common.{rules, ◌∙◌, ap}
use Rattle.std.specs.Prelude.{FitsSigned}
use Rattle.std.specs.Int.{w128}
use Rattle.std.proofs.lemmas.Int.{to_z-of_z}
use Rattle.caf_base.specs.declared.value.Kind.TheVariants as kinds
use Rattle.caf_base.specs.Arithmetic.{fits_kind}
use Rattle.coarray_tables.proofs.fits.has_upper.Goals as goal

pub returns : goal.returns
returns c =
    let f : FitsSigned w128 c.upper_of.result = search rules in
    let m = simp to_z-of_z at c.is_wide_of_kind_4.ensures in
    m ∙ ap (fits_kind kinds.I4) c.upper_of.ensures
