use Rattle.std.proofs.Common.{◌∙◌}
use Rattle.local_arrays.proofs.RowLaws.{zeros_more}
use Rattle.local_arrays.proofs.row.add_zeros.Goals as goal

pub loop-i-preserved : goal.loop-i-preserved
loop-i-preserved c = record {
  items = c.push_reserved.ensures.items ∙ zeros_more c.loop-i.cells.items c.args.cells.now.items c.loop-i.i c.loop-i.invariant.items;
  capacity = c.push_reserved.ensures.capacity ∙ c.loop-i.invariant.capacity;
}
