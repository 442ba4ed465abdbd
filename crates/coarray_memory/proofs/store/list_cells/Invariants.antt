use Rattle.std.proofs.Common.{◌≡◌, take}
use Rattle.coarray_memory.specs.Memories.{values_told}
use Rattle.coarray_memory.proofs.store.list_cells.Given as goal

abbrev pub invariant-loop-offset : goal.invariant-loop-offset
invariant-loop-offset l = l.values.items ≡ values_told l.cells (take l.offset-index l.offsets)
