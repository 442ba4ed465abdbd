use Rattle.std.proofs.Common.{◌≡◌, take}
use Rattle.constant_values.proofs.designator.widened.Given as goal

abbrev pub invariant-loop-dimension : goal.invariant-loop-dimension
invariant-loop-dimension l = l.all ≡ take l.dimension-index l.bounds
