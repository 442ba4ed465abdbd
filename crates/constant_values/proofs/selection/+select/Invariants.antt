use Rattle.std.proofs.Common.{length}
use Rattle.constant_values.proofs.selection.+select.Given as goal

abbrev pub decreases-select : goal.decreases-select
decreases-select l = length l.dims.now
