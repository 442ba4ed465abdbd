use Rattle.program_walks.proofs.Fits.{code_goes}
use Rattle.program_walks.proofs.laws.law_code_goes_in_order.Goals as goal

pub returns : goal.returns
returns g = code_goes
