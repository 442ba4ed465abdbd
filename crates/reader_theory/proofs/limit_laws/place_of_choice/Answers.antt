use Rattle.reader_theory.proofs.Limits.{first_either}
use Rattle.reader_theory.proofs.limit_laws.place_of_choice.Goals as goal

pub returns : goal.returns
returns g c = λ h ts o q. first_either g.L.Language.words g.M.Language.words g.K.Language.words (λ a w. (h a w).0) (λ a w. (h a w).1) (λ a w. (h a w).2) ts o q
