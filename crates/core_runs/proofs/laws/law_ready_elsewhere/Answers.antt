use Rattle.core_runs.specs.Moments.{rules}
use Rattle.core_runs.proofs.Elsewhere.{ready_elsewhere, can_elsewhere}
use Rattle.core_runs.proofs.laws.law_ready_elsewhere.Goals as goal

pub returns-clause-ready : goal.returns-clause-ready
returns-clause-ready g c m m' i e step j ask place other = ready_elsewhere (rules g.M.Walker g.O.Object g.B.Object) m m' i e step j ask place other

pub returns-clause-can : goal.returns-clause-can
returns-clause-can g c m m' i e step j apart other = can_elsewhere (rules g.M.Walker g.O.Object g.B.Object) m m' i e step j apart other
