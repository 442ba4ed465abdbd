use Rattle.std.proofs.Common.{refl, ap, sym}
use Rattle.race_watch.specs.RowCells.{row_cells}
use Rattle.race_watch.proofs.touch.makes.Goals as goal

pub returns : goal.returns
returns c = record { class_is = refl; cells_are = ap (row_cells c.args.owner.0 c.args.coarray) (sym c.in_ok-first_numbers.ensures); first = c.requires.0; last = c.requires.1 }
