use Rattle.inert_laws.proofs.Quiet.{inert_by}
use Rattle.inert_laws.proofs.Silence.{silent_quiet}
use Rattle.inert_laws.proofs.laws.law_departure_is_inert.Goals as goal

pub returns : goal.returns
returns c n h e silent j ask other = inert_by n h e (silent_quiet n h e silent) j ask other
