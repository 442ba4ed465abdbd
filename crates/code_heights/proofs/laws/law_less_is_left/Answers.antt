use Rattle.code_heights.proofs.Left.{leaves_less}
use Rattle.code_heights.proofs.laws.law_less_is_left.Goals as goal

pub returns : goal.returns
returns g c = λ code deepest frames good d s. leaves_less g.S.Stacked.language code g.S.Stacked.limit deepest frames good d s
