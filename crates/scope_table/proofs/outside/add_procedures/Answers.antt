use Rattle.std.proofs.Common.{refl, map, [], ◌∷◌}
use Rattle.fortran_tree.specs.UnitViews.{procedure, heading}
use Rattle.rule_definitions.specs.Units.{headed, procedure_names}
use Rattle.scope_table.specs.Outside.{headings, named_heading}
use Rattle.scope_table.proofs.Orders.{turn_numbered, item_drop}
use Rattle.scope_table.proofs.outside.add_procedures.Goals as goal

pub loop-number-preserved : goal.loop-number-preserved
loop-number-preserved c = λ n.
    turn_numbered (λ i k. procedure_names i (headings (map procedure k))) c.args.procedures.now c.loop-number.number c.index-procedures-number.result
    (named_heading c.loop-number.number (headed (heading c.index-procedures-number.result.heading)) ∷ [])
    c.loop-number.names c.add_procedure.new.names _ n refl (item_drop c.args.procedures.now c.loop-number.number c.index-procedures-number.result c.index-procedures-number.is c.loop-number-test.true)
    c.in_ok-add_procedure.ensures (c.loop-number.invariant n)
