use Rattle.std.proofs.Common.{◌≡◌, take}
use Rattle.std.specs.Prelude.{sum_by}
use Rattle.local_arrays.specs.Frames.{first_size}
use Rattle.local_arrays.proofs.first.cells_of_first.Given as goal

abbrev pub invariant-loop-array : goal.invariant-loop-array
invariant-loop-array l = l.cells ≡ sum_by first_size (take l.array-index l.first)
