use Rattle.std.proofs.Common.{◌≡◌, ◌+◌, ◌≤◌, drop}
use Rattle.std.specs.Prelude.{count_by}
use Rattle.caf_report.specs.ReportText.{is_of}
use Rattle.caf_report.proofs.ending.steps_of.Given as goal

abbrev pub invariant-loop-entry : goal.invariant-loop-entry
invariant-loop-entry l = record {
  sum : l.steps + count_by (is_of l.image) (drop l.entry-index l.entries) ≡ count_by (is_of l.image) l.entries;
  few : l.steps ≤ l.entry-index;
}
