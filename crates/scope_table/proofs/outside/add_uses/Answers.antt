use Rattle.std.proofs.Common.{refl, map}
use Rattle.fortran_tree.specs.UnitViews.{use_statement}
use Rattle.rule_definitions.specs.Units.{accessible_of, accessible_by}
use Rattle.scope_table.proofs.Orders.{turn_list, item_drop}
use Rattle.scope_table.proofs.outside.add_uses.Goals as goal

pub loop-statement-preserved : goal.loop-statement-preserved
loop-statement-preserved c = λ n.
    turn_list (λ k. accessible_of (map use_statement k)) c.args.uses.now c.loop-statement.statement-index c.statement-item.result (accessible_by (use_statement c.statement-item.result))
    c.loop-statement.names c.add_use.new.names _ n refl (item_drop c.args.uses.now c.loop-statement.statement-index c.statement-item.result c.statement-item.is c.loop-statement-test.true)
    c.in_ok-add_use.ensures (c.loop-statement.invariant n)
