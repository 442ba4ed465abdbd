use Rattle.wait_chain.proofs.Images.{waits_one}
use Rattle.wait_chain.proofs.Blocked.{waits_left}
use Rattle.wait_chain.proofs.laws.law_waits_for.Goals as goal

pub returns-clause-image : goal.returns-clause-image
returns-clause-image c coarrays n t i j ask lawful w = waits_one coarrays n t lawful i j ask w

pub returns-clause-left : goal.returns-clause-left
returns-clause-left c coarrays n t i j ask lawful held w = waits_left coarrays n t lawful i j ask held w
