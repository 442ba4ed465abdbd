use Rattle.std.proofs.Common.{◌≡◌, ◌++◌, take, drop}
use Rattle.fortran_lines.specs.Lines as spec
use Rattle.fortran_lines.proofs.line.code_part.Given as goal

-- the bytes so far belong to it
abbrev pub invariant-loop-i : goal.invariant-loop-i
invariant-loop-i l = take l.i l.line ++ spec.code_part l.now (drop l.i l.line) ≡ spec.code_part l.fn.context l.line
