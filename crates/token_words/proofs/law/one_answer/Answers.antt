use Rattle.token_words.proofs.Sources.{words_once, never_both}
use Rattle.token_words.proofs.law.one_answer.Goals as goal

pub returns-clause-words : goal.returns-clause-words
returns-clause-words c = words_once

pub returns-clause-either : goal.returns-clause-either
returns-clause-either c = never_both
