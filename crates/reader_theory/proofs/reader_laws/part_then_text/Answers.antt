use Rattle.reader_theory.proofs.Tail.{exact_tail, one_of_tail}
use Rattle.reader_theory.proofs.reader_laws.part_then_text.Goals as goal

pub returns-clause-exact : goal.returns-clause-exact
returns-clause-exact g c = λ f p q more x apart some some_word is_some ts whole. exact_tail f g.L.Language.words g.M.Family.words p q more x apart some some_word is_some ts whole

pub returns-clause-once : goal.returns-clause-once
returns-clause-once g c = λ f p more x apart one. one_of_tail f g.L.Language.words g.M.Family.words p more x apart one
