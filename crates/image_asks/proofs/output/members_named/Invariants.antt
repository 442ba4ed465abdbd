use Rattle.std.proofs.Common.{◌≡◌, take, length, vec_capacity}
use Rattle.std.specs.Prelude.{map}
use Rattle.image_asks.specs.Asking.{named_by}
use Rattle.image_asks.proofs.output.members_named.Given as goal

abbrev pub invariant-loop-i : goal.invariant-loop-i
invariant-loop-i l = record {
  items : l.named.items ≡ map (named_by l.image.core) (take l.i l.indices);
  room : vec_capacity l.named ≡ length l.indices;
}
