-- The memories before the first step.
use Rattle.std.proofs.Common.{◌≡◌, ℕ, suc, ◌+◌, List, [], length, refl, ap, ◌∙◌, arith}
use Rattle.std.specs.Prelude.{map, replicate}
use Rattle.object_rules.specs.Cells.{Declared}
use Rattle.core_runs.specs.Beginnings.{numbers_to}
use Rattle.core_runs.specs.Lawful.{made_memory}
use Rattle.image_core.specs.Parts.{EachAt}
use Rattle.image_core.proofs.Beginnings.{all_empty, all_numbered}
use Rattle.coarray_memory.specs.Memories.{MemoryState}
use Rattle.full_parts.specs.FullStarts.{IsNewMemory}

-- the memories are those of the images by number, and have served nothing
pub memories_made : (coarrays : List Declared) (n : ℕ) (ms : List MemoryState) → length ms ≡ n → EachAt (IsNewMemory coarrays) ms → map (λ (m : MemoryState). m.made) ms ≡ map (made_memory coarrays) (numbers_to n)
memories_made coarrays n ms count fresh =
    all_numbered (λ (m : MemoryState). m.made) (made_memory coarrays) ms 1 n count (λ k m low at. (let e : suc k ≡ 1 + k = omega arith in (fresh k m low at).made ∙ ap (made_memory coarrays) e))

pub memories_empty : (coarrays : List Declared) (ms : List MemoryState) → EachAt (IsNewMemory coarrays) ms → map (λ (m : MemoryState). m.history) ms ≡ replicate (length ms) []
memories_empty coarrays ms fresh = all_empty (λ (m : MemoryState). m.history) ms (length ms) refl (λ k m low at. (fresh k m low at).history)
