use Rattle.memory_fits.proofs.Fitting.{read_fits, read_holds}
use Rattle.memory_fits.proofs.laws.law_reads_fit.Goals as goal

pub returns-clause-asks : goal.returns-clause-asks
returns-clause-asks c p limit coarrays n fails_at words t declared core ranked typed small i owner span h e = read_fits p limit coarrays n fails_at words t declared core ranked typed small i owner span h e

pub returns-clause-waits : goal.returns-clause-waits
returns-clause-waits c p limit coarrays n fails_at words t declared core ranked typed small i line owner span w e =
    read_fits p limit coarrays n fails_at words t declared core ranked typed small i owner span (record { image = w.image; config = w.config; walks = w.walks; asks = w.asks }) e

pub returns-clause-values : goal.returns-clause-values
returns-clause-values c p limit coarrays n fails_at words t declared core ranked typed small reads i owner span h = read_holds p limit coarrays n fails_at words t declared core ranked typed small reads i owner span h
