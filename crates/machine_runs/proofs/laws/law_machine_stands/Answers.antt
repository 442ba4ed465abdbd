use Rattle.machine_runs.proofs.MachineRuns.{stands_onward}
use Rattle.machine_runs.proofs.laws.law_machine_stands.Goals as goal

pub returns : goal.returns
returns g c p w limit rooms coarrays n fails_at words h t i in_run answers l at = stands_onward g.H.Hearing.hears p w limit rooms coarrays n fails_at words h t i in_run answers l at
