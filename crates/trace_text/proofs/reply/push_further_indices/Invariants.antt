use Rattle.std.proofs.Common.{◌≡◌, ◌++◌, flat_map, take}
use Rattle.trace_text.specs.TraceText.{further, number_text}
use Rattle.trace_text.proofs.reply.push_further_indices.Given as goal

abbrev pub invariant-loop-index : goal.invariant-loop-index
invariant-loop-index l = l.out.items ≡ l.initial.out.items ++ flat_map (further number_text) (take l.index-index l.indices)
