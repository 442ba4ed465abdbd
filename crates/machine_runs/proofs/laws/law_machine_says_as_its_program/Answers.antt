use Rattle.machine_runs.proofs.MachineRuns.{machine_says, program_says}
use Rattle.machine_runs.proofs.laws.law_machine_says_as_its_program.Goals as goal

pub returns-clause-onward : goal.returns-clause-onward
returns-clause-onward c = machine_says

pub returns-clause-backward : goal.returns-clause-backward
returns-clause-backward c = program_says
