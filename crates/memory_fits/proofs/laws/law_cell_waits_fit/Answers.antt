use Rattle.memory_fits.proofs.Fitting.{named_fits, own_fits}
use Rattle.memory_fits.proofs.laws.law_cell_waits_fit.Goals as goal

pub returns-clause-named : goal.returns-clause-named
returns-clause-named c p limit coarrays n fails_at words t declared core ranked typed small i line a w e =
    named_fits p limit coarrays n fails_at words t declared core ranked typed small i a (record { image = w.image; config = w.config; walks = w.walks; asks = w.asks }) e

pub returns-clause-own : goal.returns-clause-own
returns-clause-own c p limit coarrays n fails_at words t declared core ranked typed small own i line a w e =
    own_fits p limit coarrays n fails_at words t declared core ranked typed small own i a (record { image = w.image; config = w.config; walks = w.walks; asks = w.asks }) e
