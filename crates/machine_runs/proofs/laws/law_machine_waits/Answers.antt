use Rattle.machine_runs.proofs.MachineRuns.{waits_onward, waits_backward}
use Rattle.machine_runs.proofs.laws.law_machine_waits.Goals as goal

pub returns-clause-onward : goal.returns-clause-onward
returns-clause-onward g c p w limit rooms coarrays n fails_at words h t core i line ask waits = waits_onward g.H.Hearing.hears p w limit rooms coarrays n fails_at words h t core i line ask waits

pub returns-clause-backward : goal.returns-clause-backward
returns-clause-backward g c p w limit rooms coarrays n fails_at words h t core i line ask waits = waits_backward g.H.Hearing.hears p w limit rooms coarrays n fails_at words h t core i line ask waits
