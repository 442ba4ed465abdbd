use Rattle.std.proofs.Common.{◌≡◌, length}
use Rattle.fortran_lines.specs.Lines as spec
use Rattle.fortran_lines.proofs.line.before_amp.Given as goal

-- the bytes behind the rest are blanks
abbrev pub invariant-loop-last : goal.invariant-loop-last
invariant-loop-last l = spec.before_amp l.rest ≡ spec.before_amp l.code

abbrev pub decreases-loop-last : goal.decreases-loop-last
decreases-loop-last l = length l.rest
