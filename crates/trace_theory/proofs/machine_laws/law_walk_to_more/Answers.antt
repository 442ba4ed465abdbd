use Rattle.trace_theory.proofs.Machines.{walk_to_more}
use Rattle.trace_theory.proofs.machine_laws.law_walk_to_more.Goals as goal

pub returns : goal.returns
returns g c = walk_to_more g.M.Machine.Config g.M.Machine.Ask g.M.Machine.Reply g.M.Machine.step
