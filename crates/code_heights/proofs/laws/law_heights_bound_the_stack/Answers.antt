use Rattle.code_heights.proofs.Heights.{bounded}
use Rattle.code_heights.proofs.laws.law_heights_bound_the_stack.Goals as goal

pub returns : goal.returns
returns g c = λ code heights most b d s. bounded g.S.Stacked.height code heights most b d s
