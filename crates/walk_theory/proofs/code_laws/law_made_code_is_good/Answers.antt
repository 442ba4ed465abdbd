use Rattle.walk_theory.proofs.MadeGood.{made_code_is_good}
use Rattle.walk_theory.proofs.code_laws.law_made_code_is_good.Goals as goal

pub returns : goal.returns
returns g c = made_code_is_good
