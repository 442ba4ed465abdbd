use Rattle.reader_theory.proofs.Best.{exact_best, one_of_best}
use Rattle.reader_theory.proofs.reader_laws.better_answer.Goals as goal

pub returns-clause-exact : goal.returns-clause-exact
returns-clause-exact g c = λ h ts v u. exact_best g.L.Language.words g.M.Language.words g.K.Language.words (λ a w. (h a w).0) (λ a w. (h a w).1) (λ a w. (h a w).2) ts v u

pub returns-clause-once : goal.returns-clause-once
returns-clause-once g c = λ h one two apart. one_of_best g.L.Language.words g.M.Language.words g.K.Language.words (λ a w. (h a w).0) (λ a w. (h a w).1) (λ a w. (h a w).2) one two apart
