use Rattle.image_acts.proofs.Portions.{next_takes_none}
use Rattle.image_acts.proofs.laws.law_next_literal_takes_no_place.Goals as goal

pub returns : goal.returns
returns c = next_takes_none
