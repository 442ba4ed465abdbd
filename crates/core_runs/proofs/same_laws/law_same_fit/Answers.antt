use Rattle.core_runs.specs.Moments.{rules}
use Rattle.core_runs.proofs.SameRuns.{fit_too, ends_too}
use Rattle.core_runs.proofs.same_laws.law_same_fit.Goals as goal

pub returns-clause-fit : goal.returns-clause-fit
returns-clause-fit g c b first says hear fit = fit_too (rules g.M.Walker g.O.Object g.B.Object) g.N.Walker.step g.N.Walker.hears b first says hear fit

pub returns-clause-ends : goal.returns-clause-ends
returns-clause-ends g r c d says ends = ends_too g.M.Walker.step g.N.Walker.step c d says ends
