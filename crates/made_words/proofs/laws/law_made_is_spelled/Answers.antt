use Rattle.made_words.proofs.Whole.{reading}
use Rattle.made_words.proofs.laws.law_made_is_spelled.Goals as goal

pub returns : goal.returns
returns c = reading
