use Rattle.std.proofs.Common.{◌≡◌, take, map}
use Rattle.std.specs.Prelude.{Some}
use Rattle.constant_values.proofs.designator.all_known.Given as goal

abbrev pub invariant-loop-bounds : goal.invariant-loop-bounds
invariant-loop-bounds l = l.all ≡ map (λ d. Some d) (take l.bounds-index l.dims)
