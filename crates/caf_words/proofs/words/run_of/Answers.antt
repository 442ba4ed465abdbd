use Rattle.std.proofs.Common.{◌≡◌, inl, inr, refl}
use Rattle.caf_words.specs.Words.{words_in, is_made}
use Rattle.caf_words.specs.Words.IsRest.{operands_last}
use Rattle.caf_words.specs.Words.Operands.{of_source}
use Rattle.caf_words.specs.declared.command.Verb.TheVariants as verbs
use Rattle.caf_words.proofs.Forms.{rests_from_operands, usage_operands, usage_run}
use Rattle.caf_words.proofs.words.run_of.Goals as goal

pub returns-in-Err-clause-refused : goal.returns-in-Err-clause-refused
returns-in-Err-clause-refused c =
    let (k, usage, told) = c.in-Err.ensures.refused in
    inl (k, usage_operands verbs.Run c.args.given (words_in c.args.words.now) k c.requires.no_option (usage_run (words_in c.args.words.now) k usage), told)

pub returns-in-Some-clause-means : goal.returns-in-Some-clause-means
returns-in-Some-clause-means c =
    let (origin, is, input) = c.in-Ok.ensures.input in
    let made : c.is_made.result ≡ is_made origin = c.is_made.ensures origin _ input in
    (refl, origin, rw (c.told.ensures, made) (operands_last c.args.given (words_in c.args.words.now) (of_source origin) is), input, c.in-Some.is)

pub returns-in-None-clause-refused : goal.returns-in-None-clause-refused
returns-in-None-clause-refused c =
    let (origin, is, input) = c.in-Ok.ensures.input in
    inr (refl, (c.in-None.is, rests_from_operands verbs.Run c.args.given (words_in c.args.words.now) (of_source origin, is)))
