use Rattle.tree_meaning.specs.Forms.{bodies}
use Rattle.program_walks.proofs.Ordered.{ordered_keep}
use Rattle.program_walks.proofs.Statements.{bodies_ordered}
use Rattle.program_walks.proofs.laws.law_bodies_keep.Goals as goal

pub returns : goal.returns
returns g p = ordered_keep (bodies p) (bodies_ordered p)
