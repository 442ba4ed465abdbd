use Rattle.fortran_grammar.proofs.Deciding.{exact}
use Rattle.fortran_grammar.proofs.law.test_is_exact.Goals as goal

pub returns : goal.returns
returns c = exact
