use Rattle.fortran_tree.specs.DeclarationViews.{entity}
use Rattle.declaration_rules.specs.Entities.{attributes, unit}
use Rattle.unit_scopes.specs.EntitiesAsked.{asked_entity}
use Rattle.unit_scopes.proofs.Folds.{declared_test, entity_new_told, entity_repeated_told}
use Rattle.unit_scopes.proofs.declare.declare_asked.Goals as goal

pub returns-then-is_declared_name : goal.returns-then-is_declared_name
returns-then-is_declared_name c = λ s h.
    entity_repeated_told s (unit c.args.of.now) (attributes c.args.all) c.args.of_type (entity c.args.entity.now) (asked_entity c.args.asked.now) c.args.grown.now c.note_repeated.new.first h
    (declared_test (unit c.args.of.now) c.args.grown.now.own c.as_slice.result.now c.args.entity.now.name.text c.is_declared_name.result _ c.is_declared_name.ensures c.as_slice.ensures c.if-is_declared_name.true) c.note_repeated.ensures

pub returns : goal.returns
returns c = λ s h.
    entity_new_told s (unit c.args.of.now) (attributes c.args.all) c.args.of_type (entity c.args.entity.now) (asked_entity c.args.asked.now) c.args.grown.now c.declare_new.new.grown h
    (declared_test (unit c.args.of.now) c.args.grown.now.own c.as_slice.result.now c.args.entity.now.name.text c.is_declared_name.result _ c.is_declared_name.ensures c.as_slice.ensures c.if-is_declared_name.false)
    c.in_ok-declare_new.ensures.first c.in_ok-declare_new.ensures.scope
