use Rattle.fortran_grammar.specs.ProgramGrammar.{program}
use Rattle.fortran_grammar.proofs.Canonical.{canon}
use Rattle.fortran_grammar.proofs.FairPrograms.{fair_program}
use Rattle.fortran_grammar.proofs.law.canonical_is_allowed.Goals as goal

pub returns : goal.returns
returns c = λ limit x ts (w, h, s, e). let k = canon (program x) limit 0 w (fair_program limit x) h s in (k.word, k.is_word, k.shallow, k.same)
