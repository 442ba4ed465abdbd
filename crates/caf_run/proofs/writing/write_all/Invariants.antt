use Rattle.std.proofs.Common.{◌≡◌, ◌≤◌, [], length}
use Rattle.caf_run.proofs.Written.{HasWritten}
use Rattle.caf_run.proofs.writing.write_all.Given as goal

abbrev pub invariant-loop-rest : goal.invariant-loop-rest
invariant-loop-rest g l = record {
  written : HasWritten (g.K.Sink.written l.initial.sink) (g.K.Sink.written l.sink) l.bytes l.rest;
  untouched : l.bytes ≡ [] → l.sink ≡ l.initial.sink;
  later : g.K.Sink.faults l.initial.sink ≤ g.K.Sink.faults l.sink;
}

abbrev pub decreases-loop-rest : goal.decreases-loop-rest
decreases-loop-rest g l = length l.rest
