use Rattle.direct_flow.proofs.Blocks.{block_law}
use Rattle.direct_flow.proofs.laws.law_block_does_what_it_means.Goals as goal

pub returns : goal.returns
returns c = block_law
