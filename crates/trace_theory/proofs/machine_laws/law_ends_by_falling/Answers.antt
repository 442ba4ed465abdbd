use Rattle.trace_theory.proofs.Ending.{ends_by_falling}
use Rattle.trace_theory.proofs.machine_laws.law_ends_by_falling.Goals as goal

pub returns : goal.returns
returns g c = ends_by_falling g.M.Machine.Config g.M.Machine.Ask g.M.Machine.Reply g.M.Machine.step g.M.Machine.well g.M.Machine.count g.M.Machine.rest
