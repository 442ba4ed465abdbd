use Rattle.std.proofs.Common.{length}
use Rattle.program_tables.proofs.coarray.+size.Given as goal

abbrev pub decreases-size : goal.decreases-size
decreases-size l = length l.dims.now
