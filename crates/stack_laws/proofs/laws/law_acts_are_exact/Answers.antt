use Rattle.stack_laws.proofs.Acts.{exact_act}
use Rattle.stack_laws.proofs.laws.law_acts_are_exact.Goals as goal

pub returns : goal.returns
returns c x = exact_act x
