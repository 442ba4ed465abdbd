use Rattle.reader_theory.proofs.Limits.{first_tail}
use Rattle.reader_theory.proofs.limit_laws.place_of_tail.Goals as goal

pub returns : goal.returns
returns g c = λ f p more x apart ts goes says place later. first_tail f g.L.Language.words g.M.Family.words p more x apart ts goes says.0 says.1 place later
