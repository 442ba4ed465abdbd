use Rattle.every_report.proofs.Reports.{show_the_same}
use Rattle.every_report.proofs.laws.law_every_report.Goals as goal

pub returns : goal.returns
returns c p told way fails_at r s declared first line second = show_the_same p told way fails_at r s declared first second line
