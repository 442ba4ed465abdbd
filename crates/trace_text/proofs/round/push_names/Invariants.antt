use Rattle.std.proofs.Common.{◌≡◌, ◌++◌, flat_map, take}
use Rattle.trace_text.specs.TraceText.{spaced_name}
use Rattle.trace_text.proofs.round.push_names.Given as goal

abbrev pub invariant-loop-coarray : goal.invariant-loop-coarray
invariant-loop-coarray l = l.out.items ≡ l.initial.out.items ++ flat_map (spaced_name l.names) (take l.coarray-index l.coarrays)
