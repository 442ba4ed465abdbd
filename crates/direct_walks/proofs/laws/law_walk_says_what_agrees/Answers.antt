use Rattle.direct_walks.proofs.Walking.{parts_law}
use Rattle.direct_walks.proofs.laws.law_walk_says_what_agrees.Goals as goal

pub returns : goal.returns
returns c = parts_law
