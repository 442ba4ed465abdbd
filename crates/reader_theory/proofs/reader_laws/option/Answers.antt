use Rattle.reader_theory.proofs.Choice.{exact_optional}
use Rattle.reader_theory.proofs.reader_laws.option.Goals as goal

pub returns : goal.returns
returns g c = λ test p first more x heads wide ends. exact_optional test g.L.Language.words p first x more heads wide ends
