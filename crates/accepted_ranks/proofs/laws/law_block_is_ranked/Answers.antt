use Rattle.accepted_ranks.proofs.Statements.{statements_means}
use Rattle.accepted_ranks.proofs.Ranked.{statements_ranked}
use Rattle.accepted_ranks.proofs.laws.law_block_is_ranked.Goals as goal

pub returns : goal.returns
returns c = λ ps s r e x b m. statements_ranked ps x ((statements_means ps s r e).means b x m)
