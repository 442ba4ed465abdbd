use Rattle.code_walks.proofs.Starts.{walks_alike}
use Rattle.code_walks.proofs.laws.law_code_has_walks_of_its_program.Goals as goal

pub returns : goal.returns
returns c = walks_alike
