use Rattle.cell_walks.proofs.Walks.{walks_fit}
use Rattle.cell_walks.proofs.laws.law_walks_fit.Goals as goal

pub returns : goal.returns
returns c n me coarrays readable procedures limit bodies line z first i e es d tells w = walks_fit n me coarrays readable procedures limit bodies line z first i e es d tells w
