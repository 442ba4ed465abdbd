use Rattle.std.proofs.Common.{◌+◌, ◌∷◌, length, drop, ap, sym, ◌∙◌, arith}
use Rattle.std.specs.Str.Lines.{lines}
use Rattle.std.proofs.lemmas.Slice.{between_to_end}
use Rattle.fortran_lines.proofs.Feeds.{line_ended, line_last}
use Rattle.fortran_lines.proofs.join.first_line.Goals as goal

pub returns-then-end-bytes-clause-first : goal.returns-then-end-bytes-clause-first
returns-then-end-bytes-clause-first c =
    let rest = between_to_end c.args.bytes.now (c.line_end-end.result + 1) (length c.args.bytes.now) (omega arith) in
    line_ended c.args.bytes.now c.line_end-end.result c.line_end-end.ensures c.if-end-bytes.true
    ∙ (ap (λ l. l ∷ lines (drop (c.line_end-end.result + 1) c.args.bytes.now)) (sym c.without_return.ensures) ∙ ap (λ r. c.without_return.result.now ∷ lines r) (sym rest))

pub returns-else-end-bytes-clause-first : goal.returns-else-end-bytes-clause-first
returns-else-end-bytes-clause-first c = let none = c.line_end-end.ensures in line_last c.args.bytes.now (omega arith) c.requires
