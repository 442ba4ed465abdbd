use Rattle.inert_laws.proofs.Steps.{inert_step}
use Rattle.inert_laws.proofs.laws.law_step_is_inert.Goals as goal

pub returns : goal.returns
returns c n h e is ready due j ask other = inert_step n h e ready due is j ask other
