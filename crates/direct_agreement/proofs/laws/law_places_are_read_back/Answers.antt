use Rattle.direct_agreement.proofs.Sections.{place_back}
use Rattle.direct_agreement.proofs.laws.law_places_are_read_back.Goals as goal

pub returns : goal.returns
returns c = place_back
