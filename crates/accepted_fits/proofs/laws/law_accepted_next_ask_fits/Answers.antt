use Rattle.accepted_fits.proofs.Fitting.{next_ask}
use Rattle.accepted_fits.proofs.laws.law_accepted_next_ask_fits.Goals as goal

pub returns : goal.returns
returns c x p accepts limit n fails_at words t few core i a h e = next_ask x p accepts limit n fails_at words t few core i a h e
