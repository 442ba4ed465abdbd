use Rattle.accepted_fits.proofs.Fitting.{own_sound}
use Rattle.accepted_fits.proofs.laws.law_accepted_own_is_sound.Goals as goal

pub returns : goal.returns
returns c x p accepts = own_sound x p accepts
