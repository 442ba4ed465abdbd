use Rattle.accepted_runs.proofs.Few.{program_fits}
use Rattle.accepted_runs.proofs.laws.law_accepted_coarrays_are_few.Goals as goal

pub returns : goal.returns
returns c = λ x p a. (program_fits x).means a.unbroken p a.meaning
