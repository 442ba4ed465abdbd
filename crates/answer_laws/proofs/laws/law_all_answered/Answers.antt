use Rattle.answer_laws.proofs.RepliesAnswer.{all_answered}
use Rattle.answer_laws.proofs.laws.law_all_answered.Goals as goal

pub returns : goal.returns
returns c s n t l i = all_answered s n i t l
