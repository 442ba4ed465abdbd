use Rattle.core_runs.specs.Moments.{rules}
use Rattle.core_runs.proofs.SameRuns.{waits_by_fit, waits_by_replies}
use Rattle.core_runs.proofs.same_laws.law_same_waits.Goals as goal

pub returns-clause-fit : goal.returns-clause-fit
returns-clause-fit g c b first says fit t core = waits_by_fit (rules g.M.Walker g.O.Object g.B.Object) g.N.Walker.step g.N.Walker.hears b first says t fit core

pub returns-clause-replies : goal.returns-clause-replies
returns-clause-replies g c b first says answer t core = waits_by_replies (rules g.M.Walker g.O.Object g.B.Object) g.N.Walker.step g.N.Walker.hears b first says t answer core
