use Rattle.std.proofs.Common.{◌≡◌, map, take}
use Rattle.coarray_memory.specs.Memories.{declared_of}
use Rattle.full_parts.proofs.memories.copies.Given as goal

abbrev pub invariant-loop-coarray : goal.invariant-loop-coarray
invariant-loop-coarray l = map declared_of l.copies.items ≡ map declared_of (take l.coarray-index l.coarrays)
