use Rattle.std.proofs.Common.{◌≡◌, ◌-◌, ◌++◌, map, pos}
use Rattle.caf_base.specs.Spans.{row_of}
use Rattle.coarray_types.specs.Cells.{AreCells}
use Rattle.coarray_types.proofs.section.push_row.Given as goal

abbrev pub invariant-loop-i : goal.invariant-loop-i
invariant-loop-i l = record {
  so_far : map pos l.cells.items ++ row_of (l.count - l.i) l.step l.at ≡ map pos l.initial.cells.items ++ row_of l.count l.step (pos l.first);
  to_come : AreCells (row_of (l.count - l.i) l.step l.at);
}
