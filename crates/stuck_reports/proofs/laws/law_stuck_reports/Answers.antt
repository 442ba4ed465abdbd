use Rattle.wait_chain.proofs.Chaining.{told_chain}
use Rattle.wait_chain.specs.Reports.{as_waits}
use Rattle.stuck_reports.proofs.Stuck.{stuck_report}
use Rattle.stuck_reports.proofs.laws.law_stuck_reports.Goals as goal

pub returns-clause-stuck : goal.returns-clause-stuck
returns-clause-stuck c p limit coarrays n fails_at words order r waits declared report is fit = stuck_report p limit coarrays n fails_at words order r waits declared report is fit

pub returns-clause-chain : goal.returns-clause-chain
returns-clause-chain c p limit coarrays n fails_at words order r waits declared report is fit links close told =
    told_chain n r.trace.entries (as_waits waits) (stuck_report p limit coarrays n fails_at words order r waits declared report is fit) links close told
