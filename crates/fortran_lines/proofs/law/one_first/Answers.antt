use Rattle.fortran_lines.proofs.OneFirst as lemmas
use Rattle.fortran_lines.proofs.law.one_first.Goals as goal

pub returns : goal.returns
returns c = lemmas.one_first
