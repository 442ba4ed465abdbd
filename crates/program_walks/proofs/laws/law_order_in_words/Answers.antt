use Rattle.program_walks.proofs.Lists.{ordered}
use Rattle.program_walks.proofs.laws.law_order_in_words.Goals as goal

pub returns : goal.returns
returns g r first = ordered g.M.Walker.step first
