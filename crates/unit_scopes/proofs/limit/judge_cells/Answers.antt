use Rattle.std.proofs.Common.{drop, ◌+◌}
use Rattle.scope_table.proofs.Orders.{item_drop}
use Rattle.unit_scopes.proofs.Caps.{turn_cells}
use Rattle.unit_scopes.proofs.limit.judge_cells.Goals as goal

pub loop-next-preserved : goal.loop-next-preserved
loop-next-preserved c = (
  turn_cells c.args.of_coarrays c.loop-next.passed c.judge_next-sum.result c.next-item.result (drop (c.loop-next.next-index + 1) c.args.entries.now) (drop c.loop-next.next-index c.args.entries.now) c.loop-next.first c.judge_next-sum.new.first _
      (item_drop c.args.entries.now c.loop-next.next-index c.next-item.result c.next-item.is c.loop-next-test.true) c.judge_next-sum.ensures.sum c.judge_next-sum.ensures.first c.loop-next.invariant.0,
  c.judge_next-sum.ensures.below,
)
