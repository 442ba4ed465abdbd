use Rattle.next_fits.proofs.NextFits.{next_fits}
use Rattle.next_fits.proofs.laws.law_next_ask_fits.Goals as goal

pub returns : goal.returns
returns c p limit coarrays n fails_at words t sound core few i a h known = next_fits p limit coarrays n fails_at words t sound core few i a h known
