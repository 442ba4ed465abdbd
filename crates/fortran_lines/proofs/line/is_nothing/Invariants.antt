use Rattle.std.proofs.Common.{◌≡◌, drop}
use Rattle.fortran_lines.specs.Lines as spec
use Rattle.fortran_lines.proofs.line.is_nothing.Given as goal

-- the bytes so far are blanks
abbrev pub invariant-loop-mark : goal.invariant-loop-mark
invariant-loop-mark l = spec.is_nothing (drop l.mark-index l.line) ≡ spec.is_nothing l.line
