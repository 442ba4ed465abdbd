-- Which rules a file breaks, and which checked program it is accepted as.
use Rattle.std.specs.Prelude.{ℕ, ◌≡◌, ◌⊎◌, [], Option, None}
use Rattle.caf_base.specs.declared.place.Pos.{Pos}
use Rattle.checked_tree.specs.Statements as ts
use Rattle.unit_tree.specs.Files.{UnitFile}
use Rattle.rule_definitions.specs.declared.broken.Broken.{Broken}
use Rattle.rule_definitions.specs.Judgements.{first_of, or_else}
use Rattle.rule_definitions.specs.Acceptance.{IsAmong, Breaks, Accepts, first_break}
use Rattle.module_units.specs.UnitRules.{file_breaks}
use Rattle.module_units.specs.Flat.{flat}

-- the file breaks this rule at this place: its units do, or they break nothing and the one program that it is does
abbrev pub BreaksFile : UnitFile → ℕ → Pos → Type 0
BreaksFile x r at = IsAmong (file_breaks x) (record { rule = r; at = at }) ⊎ ((file_breaks x ≡ []) × Breaks (flat x) r at)

-- its units break nothing, and it stands as one program for this checked program
pub record AcceptsFile (x : UnitFile) (c : ts.Program) : Type 0 where
  pub unbroken : file_breaks x ≡ []
  pub accepts : Accepts (flat x) c

-- the first break of the units, and that of a file
abbrev pub first_unit_break : UnitFile → Option Broken
first_unit_break x = first_of None (file_breaks x)

abbrev pub first_file_break : UnitFile → Option Broken
first_file_break x = or_else (first_unit_break x) (first_break (flat x))
