use Rattle.fit_laws.proofs.Fitting.{told_fits, allocation_fits}
use Rattle.fit_laws.proofs.laws.law_asks_fit.Goals as goal

pub returns-clause-told : goal.returns-clause-told
returns-clause-told c p limit coarrays n fails_at words t declared core few i a h told = told_fits p limit coarrays n fails_at words t declared core few i a h told

pub returns-clause-allocates : goal.returns-clause-allocates
returns-clause-allocates c p limit coarrays n fails_at words t declared own only core few i a h allocation = allocation_fits p limit coarrays n fails_at words t declared core few own only i a h allocation
