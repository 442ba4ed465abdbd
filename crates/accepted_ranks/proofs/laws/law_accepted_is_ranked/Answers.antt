use Rattle.accepted_ranks.proofs.Programs.{program_means}
use Rattle.accepted_ranks.proofs.laws.law_accepted_is_ranked.Goals as goal

pub returns : goal.returns
returns c = λ p x b m. (program_means p).means b x m
