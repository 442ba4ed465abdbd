use Rattle.trace_theory.proofs.Machines.{one_next_ask}
use Rattle.trace_theory.proofs.machine_laws.law_one_next_ask.Goals as goal

pub returns : goal.returns
returns g c = one_next_ask g.M.Machine.Config g.M.Machine.Ask g.M.Machine.Reply g.M.Machine.step
