-- Which programs the machine can run.
use Rattle.std.specs.Prelude.{ℕ, ◌≡◌, ◌⊎◌, true, false, List}
use Rattle.std.specs.List.{list_all}
use Rattle.walk_theory.specs.Code.{Line}
use Rattle.walk_theory.specs.Made.{program_code}
use Rattle.checked_tree.specs.Statements.{Program}
use Rattle.image_acts.specs.Acts.{Act, ask, end_program}
use Rattle.object_rules.specs.MemoryRules.{has_first_values}
use Rattle.tree_meaning.specs.Forms.{bodies}
use Rattle.program_tables.specs.Tables.{tables_of}
use Rattle.checked_run.specs.Coarrays.{coarrays_of}
use Rattle.checked_run.specs.Doing.{CanBegin, DoesAll, IsUnrunnableCode}

-- the lines of its code
abbrev pub lines_of : Program → List (Line Act)
lines_of p = program_code (ask end_program) p.end_line (bodies p)

-- the machine can run the program: it does each instruction of its code, can begin with its tables, and each static
-- coarray of values has its first values
pub record CanRun (p : Program) : Type 0 where
  pub does : DoesAll (lines_of p)
  pub begins : CanBegin (tables_of p)
  pub values : list_all has_first_values (coarrays_of p) ≡ true

-- it can't. This is the line of an instruction that it doesn't do, or 0: where it can't begin, or a first value is
-- missing
pub record IsUnrunnable (p : Program) (line : ℕ) : Type 0 where
  pub cannot : CanRun p → ⊥
  pub place : IsUnrunnableCode (lines_of p) (tables_of p) line ⊎ ((list_all has_first_values (coarrays_of p) ≡ false) × (line ≡ 0))
