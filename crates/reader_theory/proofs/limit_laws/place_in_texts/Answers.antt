use Rattle.reader_theory.proofs.TextLimits.{first_of_texts}
use Rattle.reader_theory.proofs.limit_laws.place_in_texts.Goals as goal

pub returns : goal.returns
returns g c = λ p x longer goes says. first_of_texts g.L.Family.words p x g.P.Places.forms g.P.Places.next g.P.Places.may_end longer goes (λ s i ts. (says s i ts).0) (λ s i ts. (says s i ts).1)
