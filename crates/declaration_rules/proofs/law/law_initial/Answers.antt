use Rattle.declaration_rules.proofs.Definitions.{initial_is}
use Rattle.declaration_rules.proofs.law.law_initial.Goals as goal

pub returns : goal.returns
returns c = λ s u a n y ds e. initial_is s u a n y ds e
