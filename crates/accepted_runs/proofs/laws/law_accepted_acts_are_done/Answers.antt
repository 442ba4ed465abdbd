use Rattle.accepted_runs.proofs.Programs.{acts_done}
use Rattle.accepted_runs.proofs.laws.law_accepted_acts_are_done.Goals as goal

pub returns : goal.returns
returns c = acts_done
