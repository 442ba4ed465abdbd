use Rattle.accepted_cells.proofs.OwnCells.{tables_held}
use Rattle.accepted_cells.proofs.laws.law_tables_hold.Goals as goal

pub returns : goal.returns
returns c made e p = tables_held made e p
