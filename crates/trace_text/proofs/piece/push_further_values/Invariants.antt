use Rattle.std.proofs.Common.{◌≡◌, ◌++◌, flat_map, take}
use Rattle.trace_text.specs.TraceText.{further, value_text}
use Rattle.trace_text.proofs.piece.push_further_values.Given as goal

abbrev pub invariant-loop-value : goal.invariant-loop-value
invariant-loop-value l = l.out.items ≡ l.initial.out.items ++ flat_map (further value_text) (take l.value-index l.values)
