use Rattle.declaration_rules.proofs.Definitions.{cobounds_is}
use Rattle.declaration_rules.proofs.law.law_cobounds.Goals as goal

pub returns : goal.returns
returns c = λ s b. cobounds_is s b
