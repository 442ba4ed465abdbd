use Rattle.fit_laws.proofs.Fitting.{told_fits}
use Rattle.fit_laws.proofs.laws.law_waits_fit.Goals as goal

pub returns : goal.returns
returns c p limit coarrays n fails_at words t declared core few i line a w told =
    told_fits p limit coarrays n fails_at words t declared core few i a (record { image = w.image; config = w.config; walks = w.walks; asks = w.asks }) told
