use Rattle.program_walks.proofs.CodeRuns.{runs_onward, runs_backward}
use Rattle.program_walks.proofs.laws.law_code_runs.Goals as goal

pub returns-clause-onward : goal.returns-clause-onward
returns-clause-onward c = runs_onward

pub returns-clause-backward : goal.returns-clause-backward
returns-clause-backward c = runs_backward
