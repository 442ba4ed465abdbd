use Rattle.std.proofs.Common.{refl, [], ◌∷◌, map}
use Rattle.rule_definitions.specs.Units.{name_of}
use Rattle.scope_table.proofs.Orders.{item_drop}
use Rattle.scope_table.proofs.Sets.{turn_adds}
use Rattle.scope_table.specs.Symbols.{entry}
use Rattle.rule_checker.proofs.program.names_in.Goals as goal

pub loop-next-preserved : goal.loop-next-preserved
loop-next-preserved c = λ n.
    turn_adds (λ es. map name_of (map entry es)) c.args.entries.now c.loop-next.next-index c.next-item.result (name_of (entry c.next-item.result) ∷ [])
    c.loop-next.names c.add_name.new.names _ n refl (item_drop c.args.entries.now c.loop-next.next-index c.next-item.result c.next-item.is c.loop-next-test.true)
    c.in_ok-add_name.ensures (c.loop-next.invariant n)
