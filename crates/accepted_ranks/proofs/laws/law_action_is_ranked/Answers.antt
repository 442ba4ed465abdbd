use Rattle.accepted_ranks.proofs.Actions.{action_means}
use Rattle.accepted_ranks.proofs.Ranked.{statement_ranked}
use Rattle.accepted_ranks.proofs.laws.law_action_is_ranked.Goals as goal

pub returns : goal.returns
returns c = λ ps s r a p x b m. statement_ranked ps x ((action_means ps s r a p).means b x m)
