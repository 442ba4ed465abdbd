use Rattle.std.proofs.Common.{◌≡◌, ◌+◌, ◌*◌, ◌≤◌, ◌++◌, length}
use Rattle.coarray_types.specs.Coplaces.{HasCobounds}
use Rattle.coarray_tables.specs.Start.{cobound_numbers}
use Rattle.coarray_tables.proofs.start.cobound_numbers.Given as goal

-- the numbers so far, and the codimensions that are left
abbrev pub invariant-loop-lower : goal.invariant-loop-lower
invariant-loop-lower l = record {
  room : length l.few + 2 * length l.lows ≤ 6;
  are : HasCobounds l.lows l.more;
  same : l.few ++ cobound_numbers l.lows l.more ≡ cobound_numbers l.lowers l.extents;
}

abbrev pub decreases-loop-lower : goal.decreases-loop-lower
decreases-loop-lower l = length l.lows
