use Rattle.std.proofs.Common.{subst, sym, List}
use Rattle.std.specs.Prelude.{OnOk}
use Rattle.rule_definitions.specs.Names.{Named}
use Rattle.scope_table.specs.Outside.{Follows}
use Rattle.scope_table.proofs.Orders.{accessible_one}
use Rattle.scope_table.proofs.outside.add_accessible.Goals as goal

pub returns-in-Some : goal.returns-in-Some
returns-in-Some c =
    let m = rw c.as_slice.ensures at c.module_named.ensures in
    let e = accessible_one c.args.name.now.text c.module_named.result c.in-Some.meaning m c.in-Some.is in
    subst (λ (k : List Named). OnOk c.add_one.result (Follows c.add_one.new.names c.args.names.now k)) (sym e) c.add_one.ensures
