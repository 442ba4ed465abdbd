use Rattle.std.proofs.Common.{length}
use Rattle.constant_values.proofs.bounds.+size.Given as goal

abbrev pub decreases-size : goal.decreases-size
decreases-size l = length l.bounds.now
