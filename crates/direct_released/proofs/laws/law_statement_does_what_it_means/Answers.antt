use Rattle.direct_released.proofs.Released.{statement_law}
use Rattle.direct_released.proofs.laws.law_statement_does_what_it_means.Goals as goal

pub returns : goal.returns
returns c = statement_law
