use Rattle.std.proofs.Common.{◌≡◌, drop}
use Rattle.fortran_lines.specs.Lines as spec
use Rattle.fortran_lines.proofs.line.behind_amp.Given as goal

-- the bytes so far are blanks
abbrev pub invariant-loop-i : goal.invariant-loop-i
invariant-loop-i l = spec.behind_amp (drop l.i l.line) ≡ spec.behind_amp l.line
