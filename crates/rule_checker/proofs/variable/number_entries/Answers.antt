use Rattle.std.proofs.Common.{drop}
use Rattle.scope_table.proofs.Orders.{item_drop}
use Rattle.rule_checker.proofs.Typing.{turn_numbered}
use Rattle.rule_checker.proofs.variable.number_entries.Goals as goal

pub loop-next-preserved : goal.loop-next-preserved
loop-next-preserved c =
    turn_numbered c.args.entries.now c.loop-next.next-index c.next-item.result c.loop-next.number c.in_ok-further.further c.loop-next.all c.add_number.new.all _
    (item_drop c.args.entries.now c.loop-next.next-index c.next-item.result c.next-item.is c.loop-next-test.true) c.in_ok-further.ensures.numbers c.in_ok-further.ensures.next c.loop-next.invariant
