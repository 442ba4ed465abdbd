use Rattle.declaration_rules.proofs.Definitions.{kind_is}
use Rattle.declaration_rules.proofs.law.law_kind.Goals as goal

pub returns : goal.returns
returns c = λ s k e. kind_is s k e
