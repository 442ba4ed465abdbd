use Rattle.std.proofs.Common.{◌≡◌, ◌++◌, flat_map, take}
use Rattle.trace_text.specs.TraceText.{further, bounds_text}
use Rattle.trace_text.proofs.round.push_further_bounds.Given as goal

abbrev pub invariant-loop-bounds : goal.invariant-loop-bounds
invariant-loop-bounds l = l.out.items ≡ l.initial.out.items ++ flat_map (further bounds_text) (take l.bounds-index l.dims)
