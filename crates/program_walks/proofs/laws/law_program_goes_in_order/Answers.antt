use Rattle.program_walks.proofs.Programs.{program_goes}
use Rattle.program_walks.proofs.laws.law_program_goes_in_order.Goals as goal

pub returns : goal.returns
returns g = program_goes
