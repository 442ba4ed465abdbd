use Rattle.std.proofs.Common.{◌≡◌, ◌+◌, ◌-◌, ◌++◌, take, drop}
use Rattle.image_stores.proofs.numbers.Numbers.repeat.Given as goal

abbrev pub invariant-loop-i : goal.invariant-loop-i
invariant-loop-i l = record {
  values : l.self.values ≡ take l.i (drop (l.depth + (l.n - l.i)) l.fn.self.values) ++ l.fn.self.values;
  size : l.self.size ≡ l.fn.self.size;
}
