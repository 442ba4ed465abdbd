use Rattle.std.proofs.Common.{◌∙◌, ap, arith, nat_lt}
use Rattle.fortran_tokens.proofs.Widths.{wide_next, wide_digit}
use Rattle.fortran_tokens.proofs.limit.is_too_wide.Goals as goal

pub returns-then-value : goal.returns-then-value
returns-then-value c = wide_next c.loop-digit.value c.args.digits.now c.loop-digit.digit-index (omega arith) (omega arith) ∙ ap (nat_lt 9223372036854775807) c.loop-digit.invariant.same

pub returns-then-value-gt-GREATEST : goal.returns-then-value-gt-GREATEST
returns-then-value-gt-GREATEST c =
    let digit = c.from.ensures in
    wide_digit c.loop-digit.value c.args.digits.now c.loop-digit.digit-index (omega arith) (c.requires c.loop-digit.digit-index (omega arith)) (omega arith) ∙ ap (nat_lt 9223372036854775807) c.loop-digit.invariant.same
