use Rattle.std.proofs.Common.{◌≡◌, ◌++◌, flat_map, take}
use Rattle.trace_text.specs.TraceText.{dimension_text}
use Rattle.trace_text.proofs.piece.push_dimensions.Given as goal

abbrev pub invariant-loop-dimension : goal.invariant-loop-dimension
invariant-loop-dimension l = l.out.items ≡ l.initial.out.items ++ flat_map dimension_text (take l.dimension-index l.dims)
