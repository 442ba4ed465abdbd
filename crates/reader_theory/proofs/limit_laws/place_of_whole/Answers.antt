use Rattle.reader_theory.proofs.Sinking.{first_whole}
use Rattle.reader_theory.proofs.limit_laws.place_of_whole.Goals as goal

pub returns : goal.returns
returns g c = λ more p x ts goes says. first_whole g.L.Language.words more p x ts goes says.0 says.1
