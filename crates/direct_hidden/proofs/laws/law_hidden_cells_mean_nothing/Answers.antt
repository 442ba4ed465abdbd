use Rattle.direct_hidden.proofs.BlindStatements.{hidden_law}
use Rattle.direct_hidden.proofs.laws.law_hidden_cells_mean_nothing.Goals as goal

pub returns : goal.returns
returns c = hidden_law
