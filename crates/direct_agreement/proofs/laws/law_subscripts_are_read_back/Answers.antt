use Rattle.direct_agreement.proofs.Sections.{subscripts_back}
use Rattle.direct_agreement.proofs.laws.law_subscripts_are_read_back.Goals as goal

pub returns : goal.returns
returns c = subscripts_back
