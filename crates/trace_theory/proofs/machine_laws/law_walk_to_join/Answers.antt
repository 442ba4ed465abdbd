use Rattle.trace_theory.proofs.Machines.{walk_to_join}
use Rattle.trace_theory.proofs.machine_laws.law_walk_to_join.Goals as goal

pub returns : goal.returns
returns g c = walk_to_join g.M.Machine.Config g.M.Machine.Ask g.M.Machine.Reply g.M.Machine.step
