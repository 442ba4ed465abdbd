use Rattle.checked_traces.proofs.Differ.{AreNamesTo}
use Rattle.checked_traces.proofs.names.are_names.Given as goal

abbrev pub invariant-loop-k : goal.invariant-loop-k
invariant-loop-k l = AreNamesTo l.k l.texts
