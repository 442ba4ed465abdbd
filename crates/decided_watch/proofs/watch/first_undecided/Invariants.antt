use Rattle.std.proofs.Common.{take}
use Rattle.decided_watch.specs.Undecided.{NoneBefore}
use Rattle.decided_watch.specs.EventTables.{Tells}
use Rattle.decided_watch.proofs.watch.first_undecided.Given as goal

abbrev pub invariant-loop-at : goal.invariant-loop-at
invariant-loop-at l = record {
  tells : Tells l.table (take l.at l.trace);
  none : NoneBefore l.trace l.at;
}
