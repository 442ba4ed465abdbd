use Rattle.code_walks.proofs.Starts.{starts_alike}
use Rattle.code_walks.proofs.laws.law_code_starts_as_its_program.Goals as goal

pub returns : goal.returns
returns c = starts_alike
