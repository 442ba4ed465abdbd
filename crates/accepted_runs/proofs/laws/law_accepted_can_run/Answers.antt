use Rattle.accepted_runs.proofs.Programs.{can_run}
use Rattle.accepted_runs.proofs.laws.law_accepted_can_run.Goals as goal

pub returns : goal.returns
returns c = can_run
