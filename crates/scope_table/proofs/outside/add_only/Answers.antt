use Rattle.std.proofs.Common.{refl}
use Rattle.rule_definitions.specs.Units.{accessible_name, accessible_names}
use Rattle.scope_table.proofs.Orders.{turn_list, item_drop}
use Rattle.scope_table.proofs.outside.add_only.Goals as goal

pub loop-name-preserved : goal.loop-name-preserved
loop-name-preserved c = λ n.
    turn_list accessible_names c.args.only.now c.loop-name.name-index c.name-item.result (accessible_name c.name-item.result.text)
    c.loop-name.names c.add_accessible.new.names _ n refl (item_drop c.args.only.now c.loop-name.name-index c.name-item.result c.name-item.is c.loop-name-test.true)
    c.in_ok-add_accessible.ensures (c.loop-name.invariant n)
