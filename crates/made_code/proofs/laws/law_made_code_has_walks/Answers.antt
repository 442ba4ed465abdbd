use Rattle.made_code.proofs.Made.{walks}
use Rattle.made_code.proofs.laws.law_made_code_has_walks.Goals as goal

pub returns : goal.returns
returns c = walks
