use Rattle.std.proofs.Common.{◌≡◌, ◌+◌, ◌++◌, drop}
use Rattle.fortran_lines.specs.PlacedBytes.{placed_from}
use Rattle.fortran_lines.proofs.join.marks_of.Given as goal

-- the bytes so far, and what is left from the next column on
abbrev pub invariant-loop-i : goal.invariant-loop-i
invariant-loop-i l = l.marks.items ++ placed_from l.line (l.i + 1) (drop l.i l.bytes) ≡ placed_from l.line 1 l.bytes
