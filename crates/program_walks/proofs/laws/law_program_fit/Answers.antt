use Rattle.program_walks.proofs.Fits.{program_fit}
use Rattle.program_walks.proofs.laws.law_program_fit.Goals as goal

pub returns : goal.returns
returns g = program_fit
