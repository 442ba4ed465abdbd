use Rattle.memory_fits.proofs.Fitting.{named_fits, own_fits}
use Rattle.memory_fits.proofs.laws.law_cell_asks_fit.Goals as goal

pub returns-clause-named : goal.returns-clause-named
returns-clause-named c p limit coarrays n fails_at words t declared core ranked typed small i a h e = named_fits p limit coarrays n fails_at words t declared core ranked typed small i a h e

pub returns-clause-own : goal.returns-clause-own
returns-clause-own c p limit coarrays n fails_at words t declared core ranked typed small own i a h e = own_fits p limit coarrays n fails_at words t declared core ranked typed small own i a h e
