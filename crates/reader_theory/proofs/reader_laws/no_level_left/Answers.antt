use Rattle.reader_theory.proofs.Deep.{exact_sunk}
use Rattle.reader_theory.proofs.Levels.{sunk_between}
use Rattle.reader_theory.proofs.reader_laws.no_level_left.Goals as goal

pub returns-clause-any : goal.returns-clause-any
returns-clause-any g c = λ test some w is_some starts can more. exact_sunk g.L.Language.words test some w is_some starts can more

pub returns-clause-between : goal.returns-clause-between
returns-clause-between g c = λ limit opens opener closer alone some w is_some more. sunk_between limit opens opener closer alone.0 alone.1 g.L.Language.words some w is_some more
