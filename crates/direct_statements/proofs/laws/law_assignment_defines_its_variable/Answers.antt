use Rattle.direct_statements.proofs.Assignments.{assignment_law}
use Rattle.direct_statements.proofs.laws.law_assignment_defines_its_variable.Goals as goal

pub returns : goal.returns
returns c = assignment_law
