-- What two reports of one program show in the same way where one of them speaks for every order.
use Rattle.std.specs.Prelude.{◌≡◌, Bool, false}
use Rattle.caf_report.specs.declared.report.Report.{Report}
use Rattle.caf_report.specs.declared.report.Shown.{Shown}
use Rattle.caf_report.specs.ReportText.{report_text}
use Rattle.full_report.specs.declared.way.Way.{Way}
use Rattle.checked_run.specs.declared.running.Told.{Told}

-- the same run but for how its images take turns: in the order of a SEED, or on so many workers
abbrev pub in_way : Told → Way → Told
in_way told way = record { images = told.images; limit = told.limit; words = told.words; way = way }

-- what a text shows beside the printed lines and the end: the final values or not, and neither the trace nor the line
-- that sums the run up, which tell the order of the steps and count them
abbrev pub without_steps : Bool → Shown
without_steps vars = record { vars = vars; trace = false; summary = false }

-- the reports show the same: the same end, and the same text
pub record ShowTheSame (r s : Report) : Type 0 where
  pub end : s.end ≡ r.end
  pub text : (vars : Bool) → report_text (without_steps vars) s ≡ report_text (without_steps vars) r
