use Rattle.object_rules.proofs.Growing.{closed_stays}
use Rattle.object_rules.proofs.laws.law_closed_stays.Goals as goal

pub returns : goal.returns
returns c = closed_stays
