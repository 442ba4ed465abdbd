use Rattle.code_heights.proofs.MadeHeights.{made_is_level}
use Rattle.code_heights.proofs.laws.law_made_code_has_heights.Goals as goal

pub returns : goal.returns
returns g c = λ last line bodies t e b. made_is_level g.S.Stacked.tested g.S.Stacked.takes g.S.Stacked.leaves g.S.Stacked.ends last line bodies t e b
