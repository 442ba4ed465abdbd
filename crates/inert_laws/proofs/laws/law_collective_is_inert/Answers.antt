use Rattle.inert_laws.proofs.Quiet.{inert_by}
use Rattle.inert_laws.proofs.Joining.{collective_quiet}
use Rattle.inert_laws.proofs.laws.law_collective_is_inert.Goals as goal

pub returns : goal.returns
returns c n h e team op root kind values round asked told due ready late j ask other = inert_by n h e (collective_quiet n h e team op root kind values round asked told due ready late) j ask other
