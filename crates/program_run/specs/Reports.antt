-- The report of a run of a checked program.
use Rattle.std.specs.Prelude.{ℕ, List, Option}
use Rattle.checked_tree.specs.Statements as checked
use Rattle.object_rules.specs.Cells.{Declared}
use Rattle.caf_report.specs.declared.report.Report.{Report}
use Rattle.order_report.specs.Reports.{IsRunReport}
use Rattle.program_walks.specs.Runs.{program_rules, program_begins}

-- the report of the run of a program on n images, in the order of a SEED where there is one: an image's next statement
-- above `limit` is its limit, image i fails at its event of number `fails_at i` (0: it doesn't), and with so many
-- recorded words or more an image's next step is the limit
abbrev pub IsProgramReport : checked.Program → (limit : ℕ) → List Declared → (n : ℕ) → (fails_at : ℕ → ℕ) → (words : ℕ) (order : Option ℕ) → Report → Type 0
IsProgramReport p limit coarrays n fails_at words order report = IsRunReport (program_rules p limit) (program_begins p coarrays n fails_at words) coarrays order report
