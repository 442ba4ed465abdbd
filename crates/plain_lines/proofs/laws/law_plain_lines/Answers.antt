use Rattle.plain_lines.proofs.Joined.{statements_plain}
use Rattle.plain_lines.proofs.Unbroken.{faultless}
use Rattle.plain_lines.proofs.laws.law_plain_lines.Goals as goal

pub returns : goal.returns
returns c = record { joined = statements_plain; unbroken = faultless }
