use Rattle.std.proofs.Common.{inl, inr, arith}
use Rattle.caf_words.proofs.Numbers.{parsed, not_parsed, empty_no_number, odd_no_number}
use Rattle.caf_words.proofs.number.number_of.Goals as goal
use Rattle.caf_words.proofs.number.number_of.Goals.{then-first-eq43-via-then-first-eq43, then-first-eq43-via-else-first-eq43+then-bytes-gt1, then-first-eq48, else-first-eq48}

pub returns-in_err-first-clause-none : goal.returns-in_err-first-clause-none
returns-in_err-first-clause-none c =
    rw c.from_residual.ensures (empty_no_number c.args.word.now (rw (← c.as_bytes-bytes.ensures.value) c.in_err-first.ensures.value))

pub returns-then-first-eq43-clause-none : goal.returns-then-first-eq43-clause-none
returns-then-first-eq43-clause-none c =
    let begins = rw c.as_bytes-bytes.ensures.value at c.in_ok-first.ensures.value in
    elim c.then-first-eq43.branch [
      | then-first-eq43-via-then-first-eq43 w ↦ odd_no_number c.args.word.now c.in_ok-first.field-0.now begins (inl (grind arith))
      | then-first-eq43-via-else-first-eq43+then-bytes-gt1 w ↦ odd_no_number c.args.word.now c.in_ok-first.field-0.now begins (inr (w.if-bytes-gt1.true.0, omega (arith, c.as_bytes-bytes.ensures.len, w.if-bytes-gt1.true.1)))
    ]

pub returns-clause-number : goal.returns-clause-number
returns-clause-number c =
    let begins = rw c.as_bytes-bytes.ensures.value at c.in_ok-first.ensures.value in
    let zero_first = rw c.as_bytes-bytes.ensures.value at c.if-bytes-gt1.either in
    rw c.ok.ensures.value (parsed c.args.word.now c.in_ok-first.field-0.now c.parse.result begins c.if-first-eq43.false zero_first c.parse.ensures.value.0)

pub returns-clause-none : goal.returns-clause-none
returns-clause-none c = rw c.ok.ensures.value (not_parsed c.args.word.now c.parse.result c.parse.ensures.value.0)
