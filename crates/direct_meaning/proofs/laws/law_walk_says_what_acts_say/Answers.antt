use Rattle.direct_meaning.proofs.Walks.{walk_law}
use Rattle.direct_meaning.proofs.laws.law_walk_says_what_acts_say.Goals as goal

pub returns : goal.returns
returns c = walk_law
