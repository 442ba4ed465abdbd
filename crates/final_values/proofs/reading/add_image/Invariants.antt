use Rattle.std.proofs.Common.{◌≡◌, ◌++◌, take, map}
use Rattle.final_values.specs.Finals.{final_of}
use Rattle.final_values.proofs.reading.add_image.Given as goal

abbrev pub invariant-loop-one : goal.invariant-loop-one
invariant-loop-one l = l.finals.items ≡ l.initial.finals.items ++ map (final_of l.image.0 l.machine.state.core l.memory.made l.memory.history) (take l.one-index l.listed)
