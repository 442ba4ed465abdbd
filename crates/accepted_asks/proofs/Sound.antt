-- An accepted program is sound, where the memories have what it declares.
use Rattle.std.specs.Prelude.{◌≡◌, true, List}
use Rattle.std.specs.List.{list_all}
use Rattle.fortran_tree.specs.Units as u
use Rattle.checked_tree.specs.Statements as s
use Rattle.rule_definitions.specs.Acceptance.{Accepts}
use Rattle.accepted_ranks.proofs.Programs.{program_means}
use Rattle.coarray_tables.specs.Fits.{are_fit}
use Rattle.program_tables.specs.Tables.{tables_of}
use Rattle.object_rules.specs.Cells.{Declared}
use Rattle.object_rules.specs.MemoryRules.{has_first_values}
use Rattle.walk_laws.specs.Fits.{AreDeclaredBy}
use Rattle.fit_laws.specs.Asks.{AllocatesAllocatable}
use Rattle.accepted_cells.specs.Contents.{HoldWhatIsDeclared}
use Rattle.accepted_cells.proofs.Programs.{program_typed}
use Rattle.accepted_cells.proofs.OwnCells.{all_small}
use Rattle.next_fits.specs.Known.{IsSound}

pub accepted_sound : (x : u.Program) (p : s.Program) → Accepts x p → (coarrays : List Declared) → HoldWhatIsDeclared p coarrays → AreDeclaredBy p coarrays → are_fit 0 (tables_of p).coarrays ≡ true → list_all has_first_values coarrays ≡ true
    → AllocatesAllocatable coarrays p → IsSound coarrays p
accepted_sound x p accepts coarrays held declared fit valued allocates = record {
  values = valued;
  declared = declared;
  small = all_small p.main.variables p.coarrays 0 fit;
  ranked = (program_means x).means accepts.unbroken p accepts.meaning;
  typed = (program_typed coarrays x).means accepts.unbroken p accepts.meaning held;
  allocates = allocates;
}
