use Rattle.accepted_ranks.proofs.Programs.{program_kinded}
use Rattle.accepted_ranks.proofs.laws.law_accepted_is_kinded.Goals as goal

pub returns : goal.returns
returns c = λ p x b m. (program_kinded p).means b x m
