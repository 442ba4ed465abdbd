use Rattle.std.proofs.Common.{arith}
use Rattle.image_sync.proofs.rows.is_lost.Goals as goal

pub returns-then-names_other : goal.returns-then-names_other
returns-then-names_other c = grind arith

pub returns-else-names_other : goal.returns-else-names_other
returns-else-names_other c = grind arith
