use Rattle.machine_runs.proofs.MachineRuns.{order_onward, order_backward}
use Rattle.machine_runs.proofs.laws.law_machine_ordered.Goals as goal

pub returns-clause-onward : goal.returns-clause-onward
returns-clause-onward g c p w limit rooms coarrays n fails_at words h s t ordered = order_onward g.H.Hearing.hears p w limit rooms coarrays n fails_at words h g.S.Choices.State g.S.Choices.chooser s t ordered

pub returns-clause-backward : goal.returns-clause-backward
returns-clause-backward g c p w limit rooms coarrays n fails_at words h s t ordered = order_backward g.H.Hearing.hears p w limit rooms coarrays n fails_at words h g.S.Choices.State g.S.Choices.chooser s t ordered
