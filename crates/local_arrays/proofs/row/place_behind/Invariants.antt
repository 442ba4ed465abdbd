use Rattle.std.proofs.Common.{◌≡◌, ◌+◌, ◌++◌, take, drop, length, vec_capacity}
use Rattle.local_arrays.specs.Rows.{placed, total_size}
use Rattle.local_arrays.proofs.row.place_behind.Given as goal

-- what is placed so far and what is left
abbrev pub invariant-loop-k : goal.invariant-loop-k
invariant-loop-k l = record {
  same : take l.k l.infos.items ++ placed l.at (drop l.k l.infos.items) ≡ take l.from l.fn.infos.items ++ placed l.start (drop l.from l.fn.infos.items);
  long : length l.infos.items ≡ length l.fn.infos.items;
  left : l.at + total_size (drop l.k l.infos.items) ≡ l.start + total_size (drop l.from l.fn.infos.items);
  capacity : vec_capacity l.infos ≡ vec_capacity l.fn.infos;
}
