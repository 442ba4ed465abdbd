use Rattle.written_runs.proofs.Reports.{written_report}
use Rattle.written_runs.proofs.laws.law_report_is_written.Goals as goal

pub returns : goal.returns
returns c = written_report
