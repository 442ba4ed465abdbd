use Rattle.std.proofs.Common.{◌≡◌, ◌+◌, ◌≤◌, length}
use Rattle.std.specs.Str.Lines.{lines}
use Rattle.fortran_lines.specs.PlacedBytes.{numbered}
use Rattle.fortran_lines.specs.Lines.{statements_of}
use Rattle.fortran_lines.specs.Faults.{first_of_all, faults_of}
use Rattle.fortran_lines.specs.Readings.{all_statements, first_fault}
use Rattle.fortran_lines.proofs.join.join_lines.Given as goal
use Rattle.std.specs.Prelude.{None}

-- what is read and what is left make the file
abbrev pub invariant-loop-rest : goal.invariant-loop-rest
invariant-loop-rest l = record {
  statements : all_statements l.reading (numbered l.number (lines l.rest)) ≡ statements_of l.bytes;
  first : first_fault l.reading (numbered l.number (lines l.rest)) ≡ first_of_all None (faults_of l.bytes);
  from_one : 1 ≤ l.number;
  few : l.number + length l.rest ≤ length l.bytes + 1;
}

abbrev pub decreases-loop-rest : goal.decreases-loop-rest
decreases-loop-rest l = length l.rest
