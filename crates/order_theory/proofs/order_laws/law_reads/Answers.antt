use Rattle.order_theory.proofs.Laws.{law_reads}
use Rattle.order_theory.proofs.order_laws.law_reads.Goals as goal

pub returns : goal.returns
returns g c = law_reads g.T.Traced.Entry g.T.Traced.view g.T.Traced.Value g.T.Traced.accesses
