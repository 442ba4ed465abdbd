use Rattle.std.proofs.Common.{rules, arith}
use Rattle.fortran_tokens.specs.Cuts.{value_of}
use Rattle.token_words.proofs.Values.{digit_is, next_small}
use Rattle.token_words.proofs.kind.value.Goals as goal

pub overflow_mul-value : goal.overflow_mul-value
overflow_mul-value c =
    let small = next_small c.loop-digit.value c.args.digits.now c.loop-digit.digit-index (value_of c.args.digits.now) (omega arith) (c.requires.digits c.loop-digit.digit-index (omega arith)) c.loop-digit.invariant in
    let narrow = c.requires.narrow in
    first_of (omega arith, search rules)

pub overflow_add-value : goal.overflow_add-value
overflow_add-value c =
    let small = next_small c.loop-digit.value c.args.digits.now c.loop-digit.digit-index (value_of c.args.digits.now) (omega arith) (c.requires.digits c.loop-digit.digit-index (omega arith)) c.loop-digit.invariant in
    let narrow = c.requires.narrow in
    let digit = c.from.ensures in
    first_of (omega arith, search rules)
