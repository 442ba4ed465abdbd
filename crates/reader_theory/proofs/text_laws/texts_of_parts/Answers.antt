use Rattle.reader_theory.proofs.Texts.{exact_rest_of_text, one_of_texts}
use Rattle.reader_theory.proofs.text_laws.texts_of_parts.Goals as goal

pub returns-clause-exact : goal.returns-clause-exact
returns-clause-exact g c = λ p x longer some some_word is_some alive. exact_rest_of_text g.L.Family.words p x g.P.Places.forms g.P.Places.next g.P.Places.may_end longer some some_word is_some alive

pub returns-clause-once : goal.returns-clause-once
returns-clause-once g c = λ longer one s ts es fs. one_of_texts g.L.Family.words g.P.Places.forms g.P.Places.next g.P.Places.may_end longer one es fs s ts
