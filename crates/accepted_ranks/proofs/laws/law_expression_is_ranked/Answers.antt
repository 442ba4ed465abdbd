use Rattle.accepted_ranks.proofs.Expressions.{judged_means}
use Rattle.accepted_ranks.proofs.Ranked.{ranked}
use Rattle.accepted_ranks.proofs.laws.law_expression_is_ranked.Goals as goal

pub returns : goal.returns
returns c = λ ps s r e x b m. ranked ps x ((judged_means ps s r e).means b x m)
