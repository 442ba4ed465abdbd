use Rattle.std.proofs.Common.{refl, [], ◌∷◌}
use Rattle.scope_table.specs.Pending.{name_texts}
use Rattle.scope_table.proofs.Orders.{item_drop}
use Rattle.scope_table.proofs.Sets.{turn_adds}
use Rattle.scope_table.proofs.pending.add_names.Goals as goal

pub loop-name-preserved : goal.loop-name-preserved
loop-name-preserved c = λ n.
    turn_adds name_texts c.args.more.now c.loop-name.name-index c.name-item.result (c.name-item.result.text ∷ [])
    c.loop-name.names c.add_name.new.names _ n refl (item_drop c.args.more.now c.loop-name.name-index c.name-item.result c.name-item.is c.loop-name-test.true)
    c.in_ok-add_name.ensures (c.loop-name.invariant n)
