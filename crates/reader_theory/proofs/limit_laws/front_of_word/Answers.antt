use Rattle.reader_theory.proofs.Sinking.{through_begins, stopped_begins}
use Rattle.reader_theory.proofs.limit_laws.front_of_word.Goals as goal

pub returns : goal.returns
returns g c = λ ts v h. (through_begins g.L.Language.words ts v h, stopped_begins g.L.Language.words ts v h)
