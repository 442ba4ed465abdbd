use Rattle.declaration_rules.proofs.Definitions.{bounds_is}
use Rattle.declaration_rules.proofs.law.law_bounds.Goals as goal

pub returns : goal.returns
returns c = λ s b. bounds_is s b
