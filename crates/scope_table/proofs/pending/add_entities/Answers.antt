use Rattle.std.proofs.Common.{refl, [], ◌∷◌}
use Rattle.scope_table.specs.Pending.{entity_names}
use Rattle.scope_table.proofs.Orders.{item_drop}
use Rattle.scope_table.proofs.Sets.{turn_adds}
use Rattle.scope_table.proofs.pending.add_entities.Goals as goal

pub loop-entity-preserved : goal.loop-entity-preserved
loop-entity-preserved c = λ n.
    turn_adds entity_names c.args.entities.now c.loop-entity.entity-index c.entity-item.result (c.entity-item.result.name.text ∷ [])
    c.loop-entity.names c.add_name.new.names _ n refl (item_drop c.args.entities.now c.loop-entity.entity-index c.entity-item.result c.entity-item.is c.loop-entity-test.true)
    c.in_ok-add_name.ensures (c.loop-entity.invariant n)
