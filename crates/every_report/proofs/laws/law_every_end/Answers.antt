use Rattle.every_report.proofs.Reports.{end_same, printed_same}
use Rattle.every_report.proofs.laws.law_every_end.Goals as goal

pub returns-clause-end : goal.returns-clause-end
returns-clause-end c p limit coarrays n fails_at words order other r s declared report decided second = end_same p limit coarrays n fails_at words declared order other r s report decided second

pub returns-clause-printed : goal.returns-clause-printed
returns-clause-printed c p limit coarrays n fails_at words order other r s declared report decided second = printed_same p limit coarrays n fails_at words declared order other r s report decided second
