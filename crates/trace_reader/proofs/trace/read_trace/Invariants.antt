use Rattle.std.proofs.Common.{◌+◌, ◌≤◌, length}
use Rattle.trace_reader.proofs.Bad.{AtLine}
use Rattle.trace_reader.proofs.trace.read_trace.Given as goal

-- what is read and what is left are the file
abbrev pub invariant-loop-rest : goal.invariant-loop-rest
invariant-loop-rest l = record {
  at : AtLine l.bytes l.rest l.names l.line l.reading;
  few : l.line + length l.rest ≤ length l.bytes + 1;
}

abbrev pub decreases-loop-rest : goal.decreases-loop-rest
decreases-loop-rest l = length l.rest
