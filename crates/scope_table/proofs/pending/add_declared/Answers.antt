use Rattle.std.proofs.Common.{ap, sym, drop, ◌+◌, ◌++◌}
use Rattle.scope_table.specs.Pending.{declared_names, entity_names}
use Rattle.scope_table.proofs.Orders.{item_drop}
use Rattle.scope_table.proofs.Sets.{turn_adds}
use Rattle.scope_table.proofs.pending.add_declared.Goals as goal

pub loop-declaration-preserved : goal.loop-declaration-preserved
loop-declaration-preserved c = λ n.
    turn_adds declared_names c.args.declarations.now c.loop-declaration.declaration-index c.declaration-item.result (entity_names c.as_slice.result.now)
    c.loop-declaration.names c.add_entities.new.names _ n (ap (λ k. entity_names k ++ declared_names (drop (c.loop-declaration.declaration-index + 1) c.args.declarations.now)) (sym c.as_slice.ensures.value))
    (item_drop c.args.declarations.now c.loop-declaration.declaration-index c.declaration-item.result c.declaration-item.is c.loop-declaration-test.true)
    c.in_ok-add_entities.ensures (c.loop-declaration.invariant n)
