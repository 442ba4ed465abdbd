use Rattle.accepted_asks.proofs.Fitting.{accepted_named, accepted_own}
use Rattle.accepted_asks.proofs.laws.law_accepted_cell_waits_fit.Goals as goal

pub returns-clause-named : goal.returns-clause-named
returns-clause-named c x p accepts limit coarrays n fails_at words t declared fit valued core i line a w e =
    accepted_named x p accepts limit coarrays n fails_at words t declared fit valued core i a (record { image = w.image; config = w.config; walks = w.walks; asks = w.asks }) e

pub returns-clause-own : goal.returns-clause-own
returns-clause-own c x p accepts limit coarrays n fails_at words t declared own fit valued core i line a w e =
    accepted_own x p accepts limit coarrays n fails_at words t declared fit valued core own i a (record { image = w.image; config = w.config; walks = w.walks; asks = w.asks }) e
