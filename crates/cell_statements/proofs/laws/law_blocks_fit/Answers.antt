use Rattle.cell_statements.proofs.Blocks.{bodies_fit}
use Rattle.cell_statements.proofs.laws.law_blocks_fit.Goals as goal

pub returns : goal.returns
returns c p coarrays readable n me ranked typed reads there k = bodies_fit n me coarrays readable there p ranked typed reads k
