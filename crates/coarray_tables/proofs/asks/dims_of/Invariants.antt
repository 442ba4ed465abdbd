use Rattle.std.proofs.Common.{◌≡◌, ◌+◌, ◌*◌, ◌≤◌, ◌++◌, length}
use Rattle.coarray_tables.specs.Asks.{span_dims}
use Rattle.coarray_tables.proofs.asks.dims_of.Given as goal

-- the dimensions so far, and those that are left
abbrev pub invariant-loop-count : goal.invariant-loop-count
invariant-loop-count l = record {
  room : 2 * length l.few + length l.left ≤ 6;
  same : l.few ++ span_dims l.left ≡ span_dims l.dims;
}

abbrev pub decreases-loop-count : goal.decreases-loop-count
decreases-loop-count l = length l.left
