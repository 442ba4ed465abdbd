use Rattle.std.proofs.Common.{◌≡◌, take, length, vec_capacity}
use Rattle.std.specs.Prelude.{map}
use Rattle.image_acts.specs.Words.{word}
use Rattle.image_asks.proofs.allocating.words.Given as goal

abbrev pub invariant-loop-i : goal.invariant-loop-i
invariant-loop-i l = record {
  items : l.list.items ≡ map word (take l.i l.numbers);
  room : vec_capacity l.list ≡ length l.numbers;
}
