use Rattle.std.proofs.Common.{rules, ◌≡◌, true}
use Rattle.coarray_tables.specs.Fits.{is_fit}
use Rattle.coarray_tables.proofs.Fitting.{few_of}
use Rattle.coarray_tables.proofs.fits.fit_together.Goals as goal

pub first_shape-shape-requires : goal.first_shape-shape-requires
first_shape-shape-requires c =
    let h : is_fit c.in-Some.coarray.now ≡ true = search rules in
    few_of c.in-Some.coarray.now h
