use Rattle.std.proofs.Common.{◌≤◌, arith, length, map}
use Rattle.fortran_tree.specs.DeclarationViews.{entity}
use Rattle.declaration_rules.specs.Entities.{attributes, unit}
use Rattle.scope_table.proofs.Orders.{item_drop}
use Rattle.unit_scopes.specs.Telling.{behind, of_entities, of_entity, told}
use Rattle.unit_scopes.proofs.Folds.{entities_more, entities_none, turn_behind}
use Rattle.unit_scopes.proofs.Turns.{finish}
use Rattle.unit_scopes.proofs.declare.declare_entities.Goals as goal

pub loop-next-preserved : goal.loop-next-preserved
loop-next-preserved c =
    turn_behind (λ x. of_entity (unit c.args.of.now) (attributes c.args.all) c.args.of_type (entity x)) (λ xs. of_entities (unit c.args.of.now) (attributes c.args.all) c.args.of_type (map entity xs))
    (λ x xs k. entities_more (unit c.args.of.now) (attributes c.args.all) c.args.of_type (entity x) (map entity xs) k)
    c.args.entities.now c.loop-next.next-index c.next-item.result (told c.args.setting.now c.loop-next.grown) (told c.args.setting.now c.declare_entity.new.grown) _
    (item_drop c.args.entities.now c.loop-next.next-index c.next-item.result c.next-item.is c.loop-next-test.true) c.in_ok-declare_entity.ensures c.loop-next.invariant

pub returns : goal.returns
returns c =
    let h : length c.args.entities.now ≤ c.loop-next.next-index = omega arith in
    finish (λ xs k. behind (of_entities (unit c.args.of.now) (attributes c.args.all) c.args.of_type (map entity xs)) k) (entities_none (unit c.args.of.now) (attributes c.args.all) c.args.of_type)
    c.args.entities.now c.loop-next.next-index (told c.args.setting.now c.loop-next.grown) _ h c.loop-next.invariant
