use Rattle.walk_theory.proofs.Good.{code_falls}
use Rattle.walk_theory.proofs.code_laws.law_code_falls.Goals as goal

pub returns : goal.returns
returns g c code deepest = code_falls g.S.Spoken.language code g.S.Spoken.limit deepest
