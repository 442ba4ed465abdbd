use Rattle.order_theory.proofs.Laws.{law_forward}
use Rattle.order_theory.proofs.order_laws.law_forward.Goals as goal

pub returns : goal.returns
returns g c = law_forward g.T.Traced.Entry g.T.Traced.view g.T.Traced.accesses.touching
