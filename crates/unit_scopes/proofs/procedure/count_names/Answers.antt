use Rattle.std.proofs.Common.{arith}
use Rattle.scope_table.proofs.Orders.{item_drop}
use Rattle.unit_scopes.proofs.Chains.{turn_counted}
use Rattle.unit_scopes.proofs.procedure.count_names.Goals as goal

pub loop-next-preserved : goal.loop-next-preserved
loop-next-preserved c =
    turn_counted c.args.declarations.now c.loop-next.next-index c.next-item.result c.loop-next.count c.in_ok-more.more _
    (item_drop c.args.declarations.now c.loop-next.next-index c.next-item.result c.next-item.is c.loop-next-test.true) (omega arith) c.loop-next.invariant
