use Rattle.trace_theory.proofs.Machines.{go_more}
use Rattle.trace_theory.proofs.machine_laws.law_go_more.Goals as goal

pub returns : goal.returns
returns g c = go_more g.M.Machine.Config g.M.Machine.Ask g.M.Machine.Reply g.M.Machine.step
