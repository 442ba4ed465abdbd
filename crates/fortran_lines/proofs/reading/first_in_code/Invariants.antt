use Rattle.std.proofs.Common.{◌≡◌, drop}
use Rattle.fortran_lines.specs.Faults as faults
use Rattle.fortran_lines.proofs.reading.first_in_code.Given as goal

-- with what is left the first is that of all
abbrev pub invariant-loop-mark : goal.invariant-loop-mark
invariant-loop-mark l = faults.first_of_all l.first (faults.not_ascii (drop l.mark-index l.code)) ≡ faults.first_of_all l.fn.so_far (faults.not_ascii l.code)
