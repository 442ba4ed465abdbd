use Rattle.std.proofs.Common.{◌≡◌, ◌++◌, pos, replicate, vec_capacity}
use Rattle.local_arrays.proofs.row.add_zeros.Given as goal

abbrev pub invariant-loop-i : goal.invariant-loop-i
invariant-loop-i l = record {
  items : l.cells.items ≡ l.initial.cells.items ++ replicate l.i (pos 0);
  capacity : vec_capacity l.cells ≡ vec_capacity l.initial.cells;
}
