use Rattle.caf_words.specs.Words.{words_in}
use Rattle.caf_words.proofs.Firsts.{valid_short, usage_told}
use Rattle.caf_words.proofs.words.words_of.Goals as goal

pub returns-clause-valid : goal.returns-clause-valid
returns-clause-valid c = valid_short (words_in c.args.words.now) c.command_of.result c.command_of.ensures.refused

pub returns-clause-usage : goal.returns-clause-usage
returns-clause-usage c = λ k usage few. usage_told (words_in c.args.words.now) c.command_of.result c.command_of.ensures.means c.command_of.ensures.refused k usage
