use Rattle.machine_runs.proofs.MachineRuns.{code_walks}
use Rattle.machine_runs.proofs.laws.law_machine_has_the_walks_of_its_code.Goals as goal

pub returns : goal.returns
returns c = code_walks
