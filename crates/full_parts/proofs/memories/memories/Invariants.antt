use Rattle.std.proofs.Common.{◌≡◌, map, length}
use Rattle.image_core.specs.Parts.{EachAt}
use Rattle.coarray_memory.specs.Memories.{declared_of}
use Rattle.full_parts.specs.FullStarts.{IsNewMemory}
use Rattle.full_parts.proofs.memories.memories.Given as goal

abbrev pub invariant-loop-k : goal.invariant-loop-k
invariant-loop-k l = record { count : length l.memories.items ≡ l.k; fresh : EachAt (IsNewMemory (map declared_of l.coarrays)) l.memories.items }
