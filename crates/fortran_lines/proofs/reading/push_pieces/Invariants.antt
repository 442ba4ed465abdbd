use Rattle.std.proofs.Common.{◌++◌, map}
use Rattle.fortran_lines.specs.Lines.{pieces}
use Rattle.fortran_lines.specs.Statements.{placed_bytes}
use Rattle.fortran_lines.proofs.Cutting.{CutSoFar}
use Rattle.fortran_lines.proofs.reading.push_pieces.Given as goal

abbrev pub invariant-loop-i : goal.invariant-loop-i
invariant-loop-i l = CutSoFar l.text l.from l.i l.context (map placed_bytes l.stmts.items) (map placed_bytes l.initial.stmts.items ++ pieces l.text)
