use Rattle.fortran_tokens.proofs.Again as lemmas
use Rattle.fortran_tokens.proofs.law.read_again.Goals as goal

pub returns : goal.returns
returns c = lemmas.read_again
