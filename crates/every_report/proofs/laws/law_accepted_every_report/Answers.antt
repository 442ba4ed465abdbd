use Rattle.every_report.proofs.Reports.{accepted_show}
use Rattle.every_report.proofs.laws.law_accepted_every_report.Goals as goal

pub returns : goal.returns
returns c x p accepts told way fails_at r s first line second = accepted_show x p accepts told way fails_at r s first line second
