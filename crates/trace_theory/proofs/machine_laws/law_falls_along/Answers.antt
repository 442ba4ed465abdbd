use Rattle.trace_theory.proofs.Ending.{falls_along}
use Rattle.trace_theory.proofs.machine_laws.law_falls_along.Goals as goal

pub returns : goal.returns
returns g c = falls_along g.M.Machine.Config g.M.Machine.Ask g.M.Machine.Reply g.M.Machine.step g.M.Machine.well g.M.Machine.count g.M.Machine.rest
