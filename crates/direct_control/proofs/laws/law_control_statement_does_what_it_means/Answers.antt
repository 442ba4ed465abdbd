use Rattle.direct_control.proofs.Performing.{control_law}
use Rattle.direct_control.proofs.laws.law_control_statement_does_what_it_means.Goals as goal

pub returns : goal.returns
returns c = control_law
