use Rattle.answer_laws.proofs.RepliesAnswer.{replies_answer}
use Rattle.answer_laws.proofs.laws.law_replies_answer.Goals as goal

pub returns : goal.returns
returns c s n t l i = replies_answer s n i t l
