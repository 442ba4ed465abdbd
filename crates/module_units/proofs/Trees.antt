-- Names for small trees, and answers, in tries of files.
use Rattle.std.proofs.Common.{ℕ, Bool, false, List, Option, Some, None}
use Rattle.std.specs.Prelude.{nat_eq, ◌&&◌}
use Rattle.caf_base.specs.declared.place.Pos.{Pos}
use Rattle.fortran_tree.specs.declared.name.Name.{Name}
use Rattle.unit_tree.specs.Files.{UnitFile}
use Rattle.rule_definitions.specs.declared.broken.Broken.{Broken}
use Rattle.rule_definitions.specs.Judgements.{is_nothing, is_there}
use Rattle.rule_definitions.specs.Units.{program_judged}
use Rattle.module_units.specs.UnitRules.{file_breaks}
use Rattle.module_units.specs.Flat.{flat}
use Rattle.module_units.specs.Acceptance.{first_unit_break, first_file_break}

-- a place, and a name at one
abbrev pub p : ℕ → ℕ → Pos
p l c = record { line = l; col = c }

abbrev pub n : List ℕ → ℕ → ℕ → Name
n x l c = record { text = x; at = p l c }

abbrev is_first : Option Broken → ℕ → ℕ → ℕ → Bool
is_first None r l c = false
is_first (Some b) r l c = nat_eq b.rule r && (nat_eq b.at.line l && nat_eq b.at.col c)

-- the first rule that its units break is this one, at this line and column
abbrev pub breaks_first : UnitFile → ℕ → ℕ → ℕ → Bool
breaks_first x r l c = is_first (first_unit_break x) r l c

-- the first rule that a file breaks
abbrev pub answers_file : UnitFile → ℕ → ℕ → ℕ → Bool
answers_file x r l c = is_first (first_file_break x) r l c

-- the file breaks no rule and has a meaning
abbrev pub accepted_file : UnitFile → Bool
accepted_file x = is_nothing (file_breaks x) && (is_nothing (program_judged (flat x)).breaks && is_there (program_judged (flat x)).meaning)
