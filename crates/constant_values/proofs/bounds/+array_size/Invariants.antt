use Rattle.std.proofs.Common.{length}
use Rattle.constant_values.proofs.bounds.+array_size.Given as goal

abbrev pub decreases-array_size : goal.decreases-array_size
decreases-array_size l = length l.dims.now
