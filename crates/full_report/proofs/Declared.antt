-- Coarrays with their first values.
use Rattle.std.proofs.Common.{◌≡◌, true, false, ◌&&◌, List, length}
use Rattle.std.specs.Prelude.{nat_eq}
use Rattle.std.specs.List.{list_all}
use Rattle.std.proofs.lemmas.Bool.{and_parts, eqb-true}
use Rattle.object_rules.specs.Cells.{Declared}
use Rattle.object_rules.specs.MemoryRules.{has_first_values, is_values, suits_values}
use Rattle.object_rules.proofs.CellValues.{all_get}
use Rattle.coarray_memory.specs.Memories.{AreDeclared}

one_declared : (d : Declared) → has_first_values d ≡ true → d.allocatable ≡ false → is_values d.content ≡ true → length d.first ≡ d.cells
one_declared d full static is =
    let both : (nat_eq (length d.first) d.cells && suits_values d.first d.content) ≡ true = rw (static, is) at full in
    eqb-true (length d.first) d.cells (and_parts (nat_eq (length d.first) d.cells) (suits_values d.first d.content) both).0

-- coarrays that have a first value for each cell, of its kind, have as many as they have cells
pub are_declared : (ds : List Declared) → list_all has_first_values ds ≡ true → AreDeclared ds
are_declared ds full c d at = one_declared d (all_get has_first_values ds c d full at)
