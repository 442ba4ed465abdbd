use Rattle.declaration_rules.proofs.Definitions.{raw_is}
use Rattle.declaration_rules.proofs.law.law_raw.Goals as goal

pub returns : goal.returns
returns c = λ s o. raw_is s o
