use Rattle.std.proofs.Common.{arith, pos, replicate}
use Rattle.std.specs.Prelude.{Some}
use Rattle.image_acts.specs.Frames.{pairs_in, zeros_in}
use Rattle.local_arrays.specs.Rows.{local_with}
use Rattle.local_arrays.proofs.RowLaws.{laid_is, laid_row}
use Rattle.local_arrays.proofs.row.Row.lay.Goals as goal

pub overflow_cast-n : goal.overflow_cast-n
overflow_cast-n c = (let h = c.fits.ensures.few c.if-not-fits.false in omega arith)

pub returns-clause-ok : goal.returns-clause-ok
returns-clause-ok c =
    laid_row c.args.self.now c.reset.new.self c.args.k (local_with (Some c.bounds_of.result) (replicate c.cells_between-n.result (pos 0))) (Some (zeros_in (pairs_in c.args.numbers.now))) c.reset.ensures
    (laid_is c.bounds_of.result (pairs_in c.args.numbers.now) c.cells_between-n.result c.bounds_of.ensures.pairs c.cells_between-n.ensures (c.fits.ensures.few c.if-not-fits.false))
