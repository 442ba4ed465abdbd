use Rattle.print_again.proofs.WordsAgain.{laid_is_cut, laid_is_cut_once}
use Rattle.print_again.proofs.law.laid_is_cut_again.Goals as goal

pub returns-clause-words : goal.returns-clause-words
returns-clause-words c = laid_is_cut

pub returns-clause-once : goal.returns-clause-once
returns-clause-once c = laid_is_cut_once
