use Rattle.std.proofs.Common.{drop, ◌+◌}
use Rattle.declaration_rules.proofs.Headings.{turn_dummies}
use Rattle.scope_table.proofs.Orders.{item_drop}
use Rattle.declaration_rules.proofs.heading.judge_dummy_names.Goals as goal

pub loop-next-preserved : goal.loop-next-preserved
loop-next-preserved c =
    turn_dummies c.loop-next.before c.judge_new_name.new.before c.next-item.result (drop (c.loop-next.next-index + 1) c.args.dummies.now) (drop c.loop-next.next-index c.args.dummies.now)
    c.loop-next.first c.judge_new_name.new.first _ (item_drop c.args.dummies.now c.loop-next.next-index c.next-item.result c.next-item.is c.loop-next-test.true)
    c.in_ok-judge_new_name.ensures.first c.in_ok-judge_new_name.ensures.names c.loop-next.invariant
