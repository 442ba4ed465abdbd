use Rattle.std.proofs.Common.{◌≤◌, arith, length, map}
use Rattle.fortran_tree.specs.DeclarationViews.{declaration}
use Rattle.declaration_rules.specs.Entities.{unit}
use Rattle.scope_table.proofs.Orders.{item_drop}
use Rattle.unit_scopes.specs.Telling.{behind, of_all, of_declaration, told}
use Rattle.unit_scopes.proofs.Folds.{all_more, all_none, turn_behind}
use Rattle.unit_scopes.proofs.Turns.{finish}
use Rattle.unit_scopes.proofs.declare.declare_all.Goals as goal

pub loop-next-preserved : goal.loop-next-preserved
loop-next-preserved c =
    turn_behind (λ x. of_declaration (unit c.args.of.now) (declaration x)) (λ xs. of_all (unit c.args.of.now) (map declaration xs))
    (λ x xs k. all_more (unit c.args.of.now) (declaration x) (map declaration xs) k)
    c.args.declarations.now c.loop-next.next-index c.next-item.result (told c.args.setting.now c.loop-next.grown) (told c.args.setting.now c.declare.new.grown) _
    (item_drop c.args.declarations.now c.loop-next.next-index c.next-item.result c.next-item.is c.loop-next-test.true) c.in_ok-declare.ensures c.loop-next.invariant

pub returns : goal.returns
returns c =
    let h : length c.args.declarations.now ≤ c.loop-next.next-index = omega arith in
    finish (λ xs k. behind (of_all (unit c.args.of.now) (map declaration xs)) k) (all_none (unit c.args.of.now))
    c.args.declarations.now c.loop-next.next-index (told c.args.setting.now c.loop-next.grown) _ h c.loop-next.invariant
