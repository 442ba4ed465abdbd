-- The memories of a run before the first step.
use Rattle.std.specs.Prelude.{ℕ, suc, ◌≡◌, List, []}
use Rattle.object_rules.specs.Cells.{Declared}
use Rattle.core_runs.specs.Lawful.{made_memory}
use Rattle.coarray_memory.specs.Memories.{MemoryState}

-- the memory at a place of the list: that of the image with this number, without an entry
pub record IsNewMemory (coarrays : List Declared) (k : ℕ) (m : MemoryState) : Type 0 where
  pub made : m.made ≡ made_memory coarrays (suc k)
  pub history : m.history ≡ []
