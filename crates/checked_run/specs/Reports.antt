-- The report of a run of a checked program that is told so.
use Rattle.std.specs.Prelude.{ℕ, ◌≡◌, ◌≤◌, ◌⊎◌}
use Rattle.checked_tree.specs.Statements.{Program}
use Rattle.caf_report.specs.declared.report.Report.{Report}
use Rattle.image_code.specs.Code.{Whole, code_of}
use Rattle.program_tables.specs.Tables.{tables_of}
use Rattle.full_report.specs.Reports.{order_of}
use Rattle.final_values.specs.Listings.{listed_of}
use Rattle.program_run.specs.Finals.{AreProgramFinals}
use Rattle.program_run.specs.Reports.{IsProgramReport}
use Rattle.checked_run.specs.declared.running.Told.{Told}
use Rattle.checked_run.specs.Coarrays.{coarrays_of, names_of}
use Rattle.checked_run.specs.Runnable.{lines_of}

-- code that the program is made into, with its tables
pub record IsCodeOf (p : Program) (w : Whole) : Type 0 where
  pub code : code_of w.program ≡ lines_of p
  pub tables : w.program.tables ≡ tables_of p

-- It is that of the run of the program over its coarrays, on so many images, with these failures and limits, in the
-- order of the SEED where there is one, and it has their names. Its final values are those of the integer and logical
-- variables of the main program.
pub record IsRunOf (p : Program) (told : Told) (fails_at : ℕ → ℕ) (report : Report) : Type 0 where
  pub run : IsProgramReport p told.limit (coarrays_of p) told.images fails_at told.words (order_of told.way) report
  pub names : report.names ≡ names_of p
  pub finals : AreProgramFinals p told.limit (coarrays_of p) told.images fails_at told.words (listed_of p) report.trace.entries report.finals

-- a status with which a run ends
abbrev pub IsRunStatus : ℕ → Type 0
IsRunStatus s = (s ≡ 0) ⊎ ((4 ≤ s) × (s ≤ 9))
