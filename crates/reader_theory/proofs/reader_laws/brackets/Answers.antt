use Rattle.reader_theory.proofs.Levels.{exact_behind, exact_between}
use Rattle.reader_theory.proofs.reader_laws.brackets.Goals as goal

pub returns-clause-behind : goal.returns-clause-behind
returns-clause-behind g c = λ limit level here test sign alone more r x. exact_behind limit level here test sign alone.0 alone.1 g.L.Language.words more r x

pub returns-clause-between : goal.returns-clause-between
returns-clause-between g c = λ limit level here opens closes opener closer o c more r x stops. exact_between limit level here opens closes opener closer o.0 o.1 c.0 c.1 g.L.Language.words more r x stops
