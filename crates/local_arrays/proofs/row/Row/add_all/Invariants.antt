use Rattle.std.proofs.Common.{◌≡◌, ◌++◌, take, map}
use Rattle.local_arrays.specs.Frames.{first_array}
use Rattle.local_arrays.proofs.row.Row.add_all.Given as goal

abbrev pub invariant-loop-array : goal.invariant-loop-array
invariant-loop-array l = record {
  arrays : l.self.arrays ≡ l.fn.self.arrays ++ map first_array (take l.array-index l.first);
  most : l.self.most ≡ l.fn.self.most;
  size : l.self.size ≡ l.fn.self.size;
}
