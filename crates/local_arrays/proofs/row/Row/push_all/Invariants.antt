use Rattle.std.proofs.Common.{◌≡◌, ◌++◌, replicate}
use Rattle.std.specs.Prelude.{None}
use Rattle.local_arrays.proofs.row.Row.push_all.Given as goal

abbrev pub invariant-loop-i : goal.invariant-loop-i
invariant-loop-i l = record {
  arrays : l.self.arrays ≡ l.fn.self.arrays ++ replicate l.i None;
  most : l.self.most ≡ l.fn.self.most;
  size : l.self.size ≡ l.fn.self.size;
}
