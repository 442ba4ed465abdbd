use Rattle.std.proofs.Common.{sym, ◌∙◌, arith}
use Rattle.std.proofs.lemmas.List.Sums.{prefix_len_is}
use Rattle.fortran_tokens.specs.Bytes.{is_name_byte}
use Rattle.fortran_tokens.proofs.scan.name_rest_len.Goals as goal

pub returns-then-not-is_name_byte-clause-value : goal.returns-then-not-is_name_byte-clause-value
returns-then-not-is_name_byte-clause-value c =
    sym (prefix_len_is is_name_byte c.args.text.now c.loop-i.i 0 (omega arith) c.loop-i.invariant (λ _. sym c.is_name_byte.ensures ∙ c.if-not-is_name_byte.true))

pub returns-clause-value : goal.returns-clause-value
returns-clause-value c =
    sym (prefix_len_is is_name_byte c.args.text.now _ 0 (omega arith) (λ k h. c.loop-i.invariant k (omega arith)) (λ h. absurd (omega arith)))
