use Rattle.made_program.proofs.Good.{made_is_good}
use Rattle.made_program.proofs.laws.law_made_is_good.Goals as goal

pub returns : goal.returns
returns c = made_is_good
