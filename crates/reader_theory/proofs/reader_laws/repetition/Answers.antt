use Rattle.reader_theory.proofs.Many.{exact_many_by}
use Rattle.reader_theory.proofs.reader_laws.repetition.Goals as goal

pub returns : goal.returns
returns g c = λ p next test first more x heads wide ends goes s. exact_many_by g.L.Family.words p next test first more x heads wide ends goes s
