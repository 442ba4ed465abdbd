use Rattle.accepted_cells.proofs.Programs.{program_typed}
use Rattle.accepted_cells.proofs.laws.law_accepted_is_typed.Goals as goal

pub returns : goal.returns
returns c p x e m coarrays declared = (program_typed coarrays p).means e x m declared
