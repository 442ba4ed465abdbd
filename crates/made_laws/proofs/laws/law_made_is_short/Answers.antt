use Rattle.made_laws.proofs.Lengths.{made_is_short}
use Rattle.made_laws.proofs.laws.law_made_is_short.Goals as goal

pub returns : goal.returns
returns c = λ seed size l h. made_is_short seed size h
