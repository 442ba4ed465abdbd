use Rattle.inert_laws.proofs.Quiet.{inert_by}
use Rattle.inert_laws.proofs.Joining.{arrival_quiet}
use Rattle.inert_laws.proofs.laws.law_arrival_is_inert.Goals as goal

pub returns : goal.returns
returns c n h e team arriving round asked told due ready late j ask other = inert_by n h e (arrival_quiet n h e team arriving round asked told due ready late) j ask other
