use Rattle.reader_theory.proofs.Sequence.{exact_by}
use Rattle.reader_theory.proofs.reader_laws.sequence.Goals as goal

pub returns : goal.returns
returns g c = λ f p q more also x y apart. exact_by f g.L.Language.words g.M.Family.words p q more also x y apart
