use Rattle.machine_runs.proofs.MachineRuns.{core_onward, core_backward}
use Rattle.machine_runs.proofs.laws.law_machine_core_runs.Goals as goal

pub returns-clause-onward : goal.returns-clause-onward
returns-clause-onward g c p w limit rooms coarrays n fails_at words h t core = core_onward g.H.Hearing.hears p w limit rooms coarrays n fails_at words h t core

pub returns-clause-backward : goal.returns-clause-backward
returns-clause-backward g c p w limit rooms coarrays n fails_at words h t core = core_backward g.H.Hearing.hears p w limit rooms coarrays n fails_at words h t core
