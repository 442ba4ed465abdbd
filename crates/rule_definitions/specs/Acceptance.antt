-- Which rules a program breaks, and which checked program it is accepted as.
use Rattle.std.specs.Prelude.{ℕ, List, [], ◌∷◌, ◌≡◌, ◌⊎◌, Option, Some, None}
use Rattle.caf_base.specs.declared.place.Pos.{Pos}
use Rattle.fortran_tree.specs.Units.{Program}
use Rattle.checked_tree.specs.Statements as ts
use Rattle.rule_definitions.specs.declared.broken.Broken.{Broken}
use Rattle.rule_definitions.specs.Judgements.{first_of}
use Rattle.rule_definitions.specs.Units.{program_judged}

abbrev pub IsAmong : List Broken → Broken → Type 0
IsAmong [] b = ⊥
IsAmong (x ∷ xs) b = (x ≡ b) ⊎ IsAmong xs b

-- the program breaks this rule at this place
abbrev pub Breaks : Program → ℕ → Pos → Type 0
Breaks p r at = IsAmong (program_judged p).breaks (record { rule = r; at = at })

-- the program breaks no rule and stands for this checked program
pub record Accepts (p : Program) (c : ts.Program) : Type 0 where
  pub unbroken : (program_judged p).breaks ≡ []
  pub meaning : (program_judged p).meaning ≡ Some c

-- the first break of a program, where it has one
abbrev pub first_break : Program → Option Broken
first_break p = first_of None (program_judged p).breaks
