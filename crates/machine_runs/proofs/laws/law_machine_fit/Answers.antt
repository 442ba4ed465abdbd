use Rattle.machine_runs.proofs.MachineRuns.{machine_fit, machine_ends}
use Rattle.machine_runs.proofs.laws.law_machine_fit.Goals as goal

pub returns-clause-fit : goal.returns-clause-fit
returns-clause-fit g c p w limit rooms coarrays n fails_at words h due = machine_fit g.H.Hearing.hears p w limit rooms coarrays n fails_at words h due

pub returns-clause-ends : goal.returns-clause-ends
returns-clause-ends g c p w limit rooms me images fails_at words h = machine_ends p w limit rooms me images h fails_at words
