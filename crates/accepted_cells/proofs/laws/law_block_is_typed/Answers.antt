use Rattle.accepted_cells.proofs.Statements.{statements_typed}
use Rattle.accepted_cells.proofs.laws.law_block_is_typed.Goals as goal

pub returns : goal.returns
returns c coarrays here held block x e m = (statements_typed coarrays here held block).means e x m
