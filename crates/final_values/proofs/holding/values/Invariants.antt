use Rattle.std.proofs.Common.{◌≡◌, take, map}
use Rattle.caf_base.specs.Arithmetic.{value_of}
use Rattle.final_values.proofs.holding.values.Given as goal

abbrev pub invariant-loop-number : goal.invariant-loop-number
invariant-loop-number l = l.values.items ≡ map (value_of l.kind) (take l.number-index l.numbers)
