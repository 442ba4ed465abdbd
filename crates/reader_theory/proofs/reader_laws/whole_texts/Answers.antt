use Rattle.reader_theory.proofs.Whole.{exact_whole, one_reading}
use Rattle.reader_theory.proofs.reader_laws.whole_texts.Goals as goal

pub returns-clause-exact : goal.returns-clause-exact
returns-clause-exact g c = exact_whole g.L.Language.words

pub returns-clause-once : goal.returns-clause-once
returns-clause-once g c = one_reading g.L.Language.words
