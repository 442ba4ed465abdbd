use Rattle.accepted_cells.proofs.OwnCells.{all_small}
use Rattle.accepted_cells.proofs.laws.law_own_coarrays_are_small.Goals as goal

pub returns : goal.returns
returns c p h = all_small p.main.variables p.coarrays 0 h
