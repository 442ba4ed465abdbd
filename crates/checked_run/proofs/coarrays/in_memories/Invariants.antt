use Rattle.std.proofs.Common.{◌≡◌, take, map}
use Rattle.coarray_memory.specs.Memories.{declared_of}
use Rattle.checked_run.specs.Coarrays.{in_memory}
use Rattle.checked_run.proofs.coarrays.in_memories.Given as goal

abbrev pub invariant-loop-coarray : goal.invariant-loop-coarray
invariant-loop-coarray l = map declared_of l.all.items ≡ map in_memory (take l.coarray-index l.coarrays)
