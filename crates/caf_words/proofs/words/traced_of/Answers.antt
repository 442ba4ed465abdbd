use Rattle.std.proofs.Common.{inl, inr, refl}
use Rattle.caf_words.specs.Words.{words_in}
use Rattle.caf_words.specs.Words.IsRest.{operands_last}
use Rattle.caf_words.specs.Words.Operands.{of_trace}
use Rattle.caf_words.specs.declared.command.Verb.TheVariants as verbs
use Rattle.caf_words.proofs.Forms.{rests_from_operands, usage_operands, usage_traced}
use Rattle.caf_words.proofs.words.traced_of.Goals as goal

pub returns-in-Err-clause-refused : goal.returns-in-Err-clause-refused
returns-in-Err-clause-refused c =
    let (k, usage, told) = c.in-Err.ensures.refused in
    inl (k, usage_operands (verbs.Traced c.args.goal) c.args.given (words_in c.args.words.now) k c.requires.no_option (usage_traced c.args.goal (words_in c.args.words.now) k usage), told)

pub returns-in-Some-clause-means : goal.returns-in-Some-clause-means
returns-in-Some-clause-means c =
    let ((trace, file, are), there) = c.in-Ok.ensures.places in
    (refl, trace, file, rw c.told.ensures (operands_last c.args.given (words_in c.args.words.now) (of_trace trace file) are), there, c.in-Some.is)

pub returns-in-None-clause-refused : goal.returns-in-None-clause-refused
returns-in-None-clause-refused c =
    let ((trace, file, are), there) = c.in-Ok.ensures.places in
    inr (refl, (c.in-None.is, rests_from_operands (verbs.Traced c.args.goal) c.args.given (words_in c.args.words.now) (of_trace trace file, are)))
