use Rattle.reader_theory.proofs.Moved.{moved_begins, moved_goes}
use Rattle.reader_theory.proofs.limit_laws.limits_agree.Goals as goal

pub returns : goal.returns
returns g c = λ n same ts l. (moved_begins g.L.Language.words g.M.Language.words ts n same.0 l, moved_goes g.L.Language.words g.M.Language.words ts same.1)
