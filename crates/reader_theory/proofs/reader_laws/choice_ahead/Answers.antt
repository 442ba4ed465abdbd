use Rattle.reader_theory.proofs.Ahead.{exact_ahead}
use Rattle.reader_theory.proofs.reader_laws.choice_ahead.Goals as goal

pub returns : goal.returns
returns g c = λ one two p q first second more x y pairs other wide wider p_eats q_eats. exact_ahead one two g.L.Language.words g.M.Language.words p q first second x y more pairs other wide wider p_eats q_eats
