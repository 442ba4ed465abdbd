use Rattle.std.proofs.Common.{get_or}
use Rattle.std.specs.Prelude.{None}
use Rattle.scope_table.proofs.Orders.{drop_at}
use Rattle.unit_scopes.proofs.Caps.{turn_between}
use Rattle.unit_scopes.proofs.limit.cells_between.Goals as goal

pub loop-next-preserved : goal.loop-next-preserved
loop-next-preserved c = (
  turn_between c.args.bounds.now c.loop-next.next-index (get_or c.args.bounds.now c.loop-next.next-index None) c.loop-next.all c.with_dimension-more.result _
      (drop_at c.args.bounds.now c.loop-next.next-index None c.loop-next-test.true) c.with_dimension-more.ensures.cells c.loop-next.invariant.0,
  c.with_dimension-more.ensures.below,
)
