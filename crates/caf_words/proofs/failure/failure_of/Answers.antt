use Rattle.caf_words.proofs.Failures.{split_failure}
use Rattle.caf_words.proofs.failure.failure_of.Goals as goal

pub returns-in_err-image-clause-none : goal.returns-in_err-image-clause-none
returns-in_err-image-clause-none c =
    rw c.from_residual.ensures (λ f failure. rw c.in_err-image.was at (split_failure c.args.word.now c.split_once.result c.split_once.ensures.cases f failure))

pub returns-in_err-number_between-clause-none : goal.returns-in_err-number_between-clause-none
returns-in_err-number_between-clause-none c =
    rw c.from_residual-in_err-number_between.ensures (λ f failure.
    (let parts = rw c.in_ok-image.was at (split_failure c.args.word.now c.split_once.result c.split_once.ensures.cases f failure) in
    c.in_err-number_between.ensures.none f.image failure.least_image failure.most_image parts.0))

pub returns-in_err-number_between-2-clause-none : goal.returns-in_err-number_between-2-clause-none
returns-in_err-number_between-2-clause-none c =
    rw c.from_residual-in_err-number_between-2.ensures (λ f failure.
    (let parts = rw c.in_ok-image.was at (split_failure c.args.word.now c.split_once.result c.split_once.ensures.cases f failure) in
    c.in_err-number_between-2.ensures.none f.step failure.least_step failure.most_step parts.1))
