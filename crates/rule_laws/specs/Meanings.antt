-- A program that breaks nothing has a meaning.
use Rattle.std.specs.Prelude.{◌≡◌, []}
use Rattle.fortran_tree.specs.Units.{Program}
use Rattle.checked_tree.specs.Statements as ts
use Rattle.rule_definitions.specs.Acceptance.{Accepts}
use Rattle.rule_definitions.specs.Units.{program_judged}

-- no rule is broken
abbrev pub IsUnbroken : Program → Type 0
IsUnbroken p = (program_judged p).breaks ≡ []

-- the program is accepted as some checked program
abbrev pub IsAccepted : Program → Type 0
IsAccepted p = (c : ts.Program) × Accepts p c
