use Rattle.std.proofs.Common.{◌∙◌, refl, ap, map}
use Rattle.fortran_tree.specs.DeclarationViews.{entity as entity_seen}
use Rattle.declaration_rules.specs.Bounds.{maybe_asked}
use Rattle.declaration_rules.specs.Entities.{attributes}
use Rattle.declaration_rules.specs.Shapes.{asked_dimension, dimension_asked_of}
use Rattle.unit_scopes.specs.Coshapes.{maybe_coshape, maybe_coshape_of}
use Rattle.unit_scopes.proofs.Laws.{entity_made}
use Rattle.unit_scopes.proofs.entity.ask_entity.Goals as goal

pub returns : goal.returns
returns c =
    entity_made c.args.scope.now (attributes c.args.all) (entity_seen c.args.entity.now)
    (map asked_dimension c.in_ok-dimensions.dimensions.items) (maybe_coshape c.in_ok-coshape.coshape) (maybe_asked c.in_ok-initial.initial)
    (c.in_ok-dimensions.ensures ∙ ap (map (dimension_asked_of c.args.scope.now)) c.dimensions_of.ensures)
    (c.in_ok-coshape.ensures ∙ ap (maybe_coshape_of c.args.scope.now) c.coshape_of.ensures)
    c.in_ok-initial.ensures
