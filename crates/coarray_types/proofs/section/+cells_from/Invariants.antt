use Rattle.std.proofs.Common.{length}
use Rattle.coarray_types.proofs.section.+cells_from.Given as goal

abbrev pub decreases-cells_from : goal.decreases-cells_from
decreases-cells_from l = length l.dims.now
