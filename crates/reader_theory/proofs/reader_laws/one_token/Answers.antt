use Rattle.reader_theory.proofs.Single.{exact_token}
use Rattle.reader_theory.proofs.Levels.{exact_one}
use Rattle.reader_theory.proofs.reader_laws.one_token.Goals as goal

pub returns-clause-plain : goal.returns-clause-plain
returns-clause-plain g c = exact_token

pub returns-clause-at_level : goal.returns-clause-at_level
returns-clause-at_level g c = λ test sample limit level. exact_one limit level test sample
