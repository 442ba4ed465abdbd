use Rattle.std.proofs.Common.{◌≡◌, ◌++◌, take}
use Rattle.constant_values.proofs.items.append.Given as goal

abbrev pub invariant-loop-value : goal.invariant-loop-value
invariant-loop-value l = l.list ≡ l.initial.list ++ take l.value-index l.more
