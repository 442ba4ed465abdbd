use Rattle.std.proofs.Common.{drop, ◌+◌, map, ap, List}
use Rattle.fortran_tree.specs.UnitViews.{procedure, heading}
use Rattle.fortran_tree.specs.declared.unit.Procedure.{Procedure}
use Rattle.rule_definitions.specs.Units.{headed}
use Rattle.scope_table.specs.Outside.{headings}
use Rattle.declaration_rules.proofs.Headings.{turn_twice}
use Rattle.scope_table.proofs.Orders.{item_drop}
use Rattle.declaration_rules.proofs.heading.judge_procedure_names.Goals as goal

pub loop-next-preserved : goal.loop-next-preserved
loop-next-preserved c =
    let d = item_drop c.args.procedures.now c.loop-next.next-index c.next-item.result c.next-item.is c.loop-next-test.true in
    let see = λ (xs : List Procedure). headings (map procedure xs) in
    let n = rw c.heading_name.ensures at c.in_ok-judge_new_name.ensures.first in
    let m = rw c.heading_name.ensures at c.in_ok-judge_new_name.ensures.names in
    turn_twice c.loop-next.before c.judge_new_name.new.before (headed (heading c.next-item.result.heading)) (see (drop (c.loop-next.next-index + 1) c.args.procedures.now)) (see (drop c.loop-next.next-index c.args.procedures.now))
    c.loop-next.first c.judge_new_name.new.first _ (ap see d) n m c.loop-next.invariant
