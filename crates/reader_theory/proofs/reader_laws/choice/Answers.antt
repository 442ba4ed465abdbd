use Rattle.reader_theory.proofs.Choice.{exact_pick}
use Rattle.reader_theory.proofs.reader_laws.choice.Goals as goal

pub returns : goal.returns
returns g c = λ test p q first second more x y heads other wide wider. exact_pick test g.L.Language.words g.M.Language.words p q first second x y more heads other wide wider
