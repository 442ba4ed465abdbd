use Rattle.std.proofs.Common.{◌≡◌, ◌++◌, map, pos, drop}
use Rattle.caf_base.specs.Spans.{rows_of}
use Rattle.coarray_types.specs.Cells.{AreCells}
use Rattle.coarray_types.proofs.section.rows.Given as goal

abbrev pub invariant-loop-first : goal.invariant-loop-first
invariant-loop-first l = record {
  so_far : map pos l.cells.items ++ rows_of l.count l.step (map pos (drop l.first-index l.firsts)) ≡ rows_of l.count l.step (map pos l.firsts);
  to_come : AreCells (rows_of l.count l.step (map pos (drop l.first-index l.firsts)));
}
