use Rattle.order_theory.specs.Acts.{edge_rules}
use Rattle.order_theory.proofs.Paths.{prefixes}
use Rattle.order_theory.proofs.Sources.{sound}
use Rattle.order_theory.proofs.order_laws.law_prefixes.Goals as goal

pub returns : goal.returns
returns g c = prefixes g.T.Traced.Entry (edge_rules g.T.Traced.view) (sound g.T.Traced.Entry g.T.Traced.view)
