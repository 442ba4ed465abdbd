use Rattle.std.proofs.Common.{map}
use Rattle.rule_definitions.specs.Names.{variables_of}
use Rattle.rule_definitions.specs.Units.{symbols_named}
use Rattle.scope_table.proofs.Orders.{item_drop}
use Rattle.scope_table.specs.Symbols.{symbol}
use Rattle.unit_scopes.specs.Openings.{maybe_named}
use Rattle.unit_scopes.proofs.Openings.{named_more, turn_listed}
use Rattle.unit_scopes.proofs.interface.copy_all_named.Goals as goal

pub loop-next-preserved : goal.loop-next-preserved
loop-next-preserved c =
    turn_listed (maybe_named (variables_of c.args.own.now)) (symbols_named (variables_of c.args.own.now)) (named_more (variables_of c.args.own.now))
    c.args.names.now c.loop-next.next-index c.next-item.result (map symbol c.loop-next.all.items) (map symbol c.add_named.new.all.items) _
    (item_drop c.args.names.now c.loop-next.next-index c.next-item.result c.next-item.is c.loop-next-test.true) c.in_ok-add_named.ensures c.loop-next.invariant
