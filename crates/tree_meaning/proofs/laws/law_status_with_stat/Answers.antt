use Rattle.tree_meaning.proofs.Settling.{status_stored}
use Rattle.tree_meaning.proofs.laws.law_status_with_stat.Goals as goal

pub returns : goal.returns
returns c = status_stored
