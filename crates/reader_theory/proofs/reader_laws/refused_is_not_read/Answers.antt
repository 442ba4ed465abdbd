use Rattle.reader_theory.proofs.Fronts.{not_both}
use Rattle.reader_theory.proofs.reader_laws.refused_is_not_read.Goals as goal

pub returns : goal.returns
returns g c = not_both g.L.Language.words
