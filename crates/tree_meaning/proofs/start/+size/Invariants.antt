use Rattle.std.proofs.Common.{length}
use Rattle.tree_meaning.proofs.start.+size.Given as goal

abbrev pub decreases-size : goal.decreases-size
decreases-size l = length l.dims.now
