use Rattle.program_walks.proofs.LaneProgramEnds.{code_ends}
use Rattle.program_walks.proofs.laws.law_code_ends_in_order.Goals as goal

pub returns : goal.returns
returns g = code_ends
