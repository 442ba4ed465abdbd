use Rattle.object_rules.proofs.MemoryGrowing.{value_more}
use Rattle.object_rules.proofs.laws.law_value_more.Goals as goal

pub returns : goal.returns
returns c = value_more
