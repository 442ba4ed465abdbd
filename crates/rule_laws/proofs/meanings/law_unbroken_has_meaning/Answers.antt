use Rattle.rule_laws.proofs.UnitsSound.{accepted_whole}
use Rattle.rule_laws.proofs.meanings.law_unbroken_has_meaning.Goals as goal

pub returns : goal.returns
returns c p e = accepted_whole p e
