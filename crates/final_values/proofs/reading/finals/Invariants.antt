use Rattle.std.proofs.Common.{◌≡◌, ◌++◌, drop}
use Rattle.final_values.specs.Finals.{run_finals}
use Rattle.final_values.proofs.reading.finals.Given as goal

abbrev pub invariant-loop-k : goal.invariant-loop-k
invariant-loop-k l = l.finals.items ++ run_finals l.listed (drop l.k l.images) (drop l.k l.memories) ≡ run_finals l.listed l.images l.memories
