use Rattle.std.proofs.Common.{length}
use Rattle.caf_words.specs.Words.{words_in}
use Rattle.caf_words.proofs.Steps.{HasTaken}
use Rattle.caf_words.proofs.words.options_of.Given as goal

abbrev pub invariant-loop-taken : goal.invariant-loop-taken
invariant-loop-taken l = HasTaken l.fn.verb (words_in l.fn.words) (words_in l.rest) l.given l.place l.fails

abbrev pub decreases-loop-taken : goal.decreases-loop-taken
decreases-loop-taken l = length l.rest
