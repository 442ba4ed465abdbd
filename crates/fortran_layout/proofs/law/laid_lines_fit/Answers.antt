use Rattle.fortran_layout.proofs.LineLemmas.{laid_lines_fit}
use Rattle.fortran_layout.proofs.law.laid_lines_fit.Goals as goal

pub returns : goal.returns
returns c = laid_lines_fit
