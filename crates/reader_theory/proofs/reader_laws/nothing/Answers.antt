use Rattle.reader_theory.proofs.Single.{exact_nothing}
use Rattle.reader_theory.proofs.reader_laws.nothing.Goals as goal

pub returns : goal.returns
returns g c = exact_nothing
