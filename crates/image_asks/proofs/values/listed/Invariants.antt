use Rattle.std.proofs.Common.{◌≡◌, take, length, vec_capacity}
use Rattle.std.specs.Prelude.{map}
use Rattle.caf_base.specs.Arithmetic.{value_of}
use Rattle.image_asks.proofs.values.listed.Given as goal

abbrev pub invariant-loop-i : goal.invariant-loop-i
invariant-loop-i l = record {
  items : l.values.items ≡ map (value_of l.kind) (take l.i l.numbers);
  room : vec_capacity l.values ≡ length l.numbers;
}
