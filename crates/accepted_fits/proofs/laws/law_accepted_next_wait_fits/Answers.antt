use Rattle.accepted_fits.proofs.Fitting.{next_ask}
use Rattle.accepted_fits.proofs.laws.law_accepted_next_wait_fits.Goals as goal

pub returns : goal.returns
returns c x p accepts limit n fails_at words t few core i line a w e =
    next_ask x p accepts limit n fails_at words t few core i a
    (record { image = w.image; config = w.config; walks = w.walks; asks = w.asks }) e
