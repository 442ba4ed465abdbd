use Rattle.std.proofs.Common.{map, refl}
use Rattle.rule_definitions.specs.Units.{dummy_typed}
use Rattle.scope_table.proofs.Orders.{item_drop}
use Rattle.scope_table.specs.Symbols.{symbol}
use Rattle.unit_scopes.proofs.Turns.{turn_gives}
use Rattle.rule_checker.proofs.procedure.type_dummies.Goals as goal

pub loop-next-preserved : goal.loop-next-preserved
loop-next-preserved c =
    turn_gives (λ x. dummy_typed (symbol x)) (λ xs. map dummy_typed (map symbol xs)) (λ x xs. refl)
    c.args.dummies.now c.loop-next.next-index c.next-item.result c.loop-next.all.items c.push.new.self.items c.type_dummy.result _
    (item_drop c.args.dummies.now c.loop-next.next-index c.next-item.result c.next-item.is c.loop-next-test.true) c.type_dummy.ensures c.in_ok-push.ensures.items c.loop-next.invariant
