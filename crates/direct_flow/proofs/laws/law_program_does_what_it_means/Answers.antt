use Rattle.direct_flow.proofs.Programs.{program_law}
use Rattle.direct_flow.proofs.laws.law_program_does_what_it_means.Goals as goal

pub returns : goal.returns
returns c = program_law
