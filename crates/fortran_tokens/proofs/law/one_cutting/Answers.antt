use Rattle.fortran_tokens.proofs.Same.{one_cut}
use Rattle.fortran_tokens.proofs.law.one_cutting.Goals as goal

pub returns : goal.returns
returns c = λ text ps qs h k. one_cut text 0 ps qs h k
