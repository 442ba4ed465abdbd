-- The first of the breaks of a program.
use Rattle.std.specs.Prelude.{◌≡◌, ℕ, false}
use Rattle.caf_base.specs.declared.place.Pos.{Pos}
use Rattle.fortran_tree.specs.Units.{Program}
use Rattle.rule_definitions.specs.Acceptance.{Breaks}
use Rattle.rule_definitions.specs.Judgements.{comes_first}
use Rattle.rule_definitions.specs.declared.broken.Broken.{Broken}

-- a break of the program before which none of its breaks comes
pub record IsFirstBreak (p : Program) (b : Broken) : Type 0 where
  pub is_broken : Breaks p b.rule b.at
  pub is_first : (r : ℕ) (at : Pos) → Breaks p r at → comes_first (record { rule = r; at = at }) b ≡ false
