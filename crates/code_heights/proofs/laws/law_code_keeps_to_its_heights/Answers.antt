use Rattle.code_heights.proofs.Heights.{keeps}
use Rattle.code_heights.proofs.laws.law_code_keeps_to_its_heights.Goals as goal

pub returns : goal.returns
returns g c = λ code sized heights level d s. keeps g.S.Stacked.language g.S.Stacked.height g.S.Stacked.tested g.S.Stacked.takes g.S.Stacked.leaves g.S.Stacked.ends code sized heights level g.S.Stacked.limit d s
