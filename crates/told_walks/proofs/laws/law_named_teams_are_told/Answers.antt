use Rattle.told_walks.proofs.Telling.{all_told}
use Rattle.told_walks.proofs.laws.law_named_teams_are_told.Goals as goal

pub returns : goal.returns
returns c me n sizes es joins names = all_told me n sizes es joins names
