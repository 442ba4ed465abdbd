-- Names for small trees, and answers, in tries of the rules.
use Rattle.std.proofs.Common.{ℕ, Bool, false, List, Option, Some, None}
use Rattle.std.specs.Prelude.{nat_eq, ◌&&◌}
use Rattle.caf_base.specs.declared.place.Pos.{Pos}
use Rattle.fortran_tree.specs.declared.name.Name.{Name}
use Rattle.fortran_tree.specs.Units.{Program}
use Rattle.checked_tree.specs.Statements as ts
use Rattle.rule_definitions.specs.declared.broken.Broken.{Broken}
use Rattle.rule_definitions.specs.Judgements.{Judgement, first_of, is_nothing, is_there}
use Rattle.rule_definitions.specs.Units.{program_judged}

-- a place, and a name at one
abbrev pub p : ℕ → ℕ → Pos
p l c = record { line = l; col = c }

abbrev pub n : List ℕ → ℕ → ℕ → Name
n x l c = record { text = x; at = p l c }

abbrev is_first : Option Broken → ℕ → ℕ → ℕ → Bool
is_first None r l c = false
is_first (Some b) r l c = nat_eq b.rule r && (nat_eq b.at.line l && nat_eq b.at.col c)

-- the first rule that a program breaks is this one, at this line and column
abbrev pub answers : Program → ℕ → ℕ → ℕ → Bool
answers x r l c = is_first (first_of None (program_judged x).breaks) r l c

abbrev is_accepted : Judgement ts.Program → Bool
is_accepted j = is_nothing j.breaks && is_there j.meaning

-- the program breaks no rule and has a meaning
abbrev pub accepted : Program → Bool
accepted x = is_accepted (program_judged x)
