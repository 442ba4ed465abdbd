use Rattle.walk_theory.proofs.Good.{good_code_ends}
use Rattle.walk_theory.proofs.code_laws.law_good_code_ends.Goals as goal

pub returns : goal.returns
returns g c code deepest = good_code_ends g.S.Spoken.language code g.S.Spoken.limit deepest
