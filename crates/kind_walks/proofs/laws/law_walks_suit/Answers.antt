use Rattle.kind_walks.proofs.Walks.{walks_suit}
use Rattle.kind_walks.proofs.laws.law_walks_suit.Goals as goal

pub returns : goal.returns
returns c coarrays n layouts procedures limit bodies line s inside first x es d tells w = walks_suit coarrays n layouts procedures limit bodies line s inside first x es d tells w
