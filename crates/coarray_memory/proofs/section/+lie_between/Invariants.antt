use Rattle.std.proofs.Common.{length}
use Rattle.coarray_memory.proofs.section.+lie_between.Given as goal

abbrev pub decreases-lie_between : goal.decreases-lie_between
decreases-lie_between l = length l.dims.now
