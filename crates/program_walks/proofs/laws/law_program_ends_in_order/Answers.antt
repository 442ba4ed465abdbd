use Rattle.program_walks.proofs.Programs.{program_ends}
use Rattle.program_walks.proofs.laws.law_program_ends_in_order.Goals as goal

pub returns : goal.returns
returns g = program_ends
