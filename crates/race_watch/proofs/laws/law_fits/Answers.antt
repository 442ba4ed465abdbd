use Rattle.race_watch.proofs.Fits.{lawful_fits}
use Rattle.race_watch.proofs.laws.law_fits.Goals as goal

pub returns : goal.returns
returns c = lawful_fits
