use Rattle.std.proofs.Common.{sym, arith, nat_eq}
use Rattle.std.proofs.lemmas.Bool.{eq-eqb}
use Rattle.std.proofs.lemmas.List.Sums.{position_or_len_is}
use Rattle.fortran_lines.proofs.join.line_end.Goals as goal

pub returns-then-byte-eq10 : goal.returns-then-byte-eq10
returns-then-byte-eq10 c =
    sym (position_or_len_is (λ b. nat_eq b 10) c.args.bytes.now c.loop-i.i 0 (omega arith) c.loop-i.invariant (λ _. eq-eqb _ 10 c.if-byte-eq10.true))

pub returns : goal.returns
returns c =
    sym (position_or_len_is (λ b. nat_eq b 10) c.args.bytes.now _ 0 (omega arith) (λ k h. c.loop-i.invariant k (omega arith)) (λ h. absurd (omega arith)))
