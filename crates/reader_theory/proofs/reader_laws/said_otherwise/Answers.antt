use Rattle.reader_theory.proofs.Single.{relabel}
use Rattle.reader_theory.proofs.reader_laws.said_otherwise.Goals as goal

pub returns : goal.returns
returns g c = λ p more also x same wider. relabel g.L.Language.words g.M.Language.words p more also x (λ a w. (same a w).0) (λ a w. (same a w).1) wider
