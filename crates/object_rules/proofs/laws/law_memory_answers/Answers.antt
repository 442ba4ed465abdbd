use Rattle.object_rules.proofs.MemoryAnswers.{memory_answers}
use Rattle.object_rules.proofs.laws.law_memory_answers.Goals as goal

pub returns : goal.returns
returns c m h full served = memory_answers m full h served
