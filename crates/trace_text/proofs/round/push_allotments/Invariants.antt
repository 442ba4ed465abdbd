use Rattle.std.proofs.Common.{◌≡◌, ◌++◌, flat_map, take}
use Rattle.trace_text.specs.TraceText.{allotted_text}
use Rattle.trace_text.proofs.round.push_allotments.Given as goal

abbrev pub invariant-loop-allotted : goal.invariant-loop-allotted
invariant-loop-allotted l = l.out.items ≡ l.initial.out.items ++ flat_map (allotted_text l.names) (take l.allotted-index l.list)
