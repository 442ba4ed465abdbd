use Rattle.wait_chain.proofs.Chaining.{told_chain}
use Rattle.wait_chain.specs.Reports.{as_waits}
use Rattle.stuck_reports.proofs.Stuck.{stuck_report, known_fit}
use Rattle.stuck_reports.proofs.laws.law_known_stuck_reports.Goals as goal

pub returns : goal.returns
returns c p limit coarrays n fails_at words order r waits sound report is few known links close told =
    told_chain n r.trace.entries (as_waits waits)
    (stuck_report p limit coarrays n fails_at words order r waits sound.values report is (known_fit p limit coarrays n fails_at words order r waits sound report is few known)) links close told
