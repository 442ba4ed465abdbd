use Rattle.rule_laws.proofs.UnitsSound.{broken_rule}
use Rattle.rule_laws.proofs.breaks.law_rules_are_numbered.Goals as goal

pub returns : goal.returns
returns c p r at h = broken_rule p r at h
