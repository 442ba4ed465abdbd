use Rattle.std.proofs.Common.{drop, ◌+◌}
use Rattle.scope_table.proofs.Orders.{drop_at}
use Rattle.unit_names.proofs.Reached.{listed_step}
use Rattle.unit_names.proofs.levels.add_names.Goals as goal

pub loop-name-preserved : goal.loop-name-preserved
loop-name-preserved c = λ n.
    listed_step (drop c.loop-name.name-index c.args.names.now) (drop (c.loop-name.name-index + 1) c.args.names.now) _ c.args.from.now c.loop-name.into c.add.new.self c.find-given.result _ n
    (drop_at c.args.names.now c.loop-name.name-index _ c.loop-name-test.true) c.find-given.ensures c.in_ok-add.ensures (c.loop-name.invariant n)
