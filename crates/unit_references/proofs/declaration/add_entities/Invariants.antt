use Rattle.std.proofs.Common.{◌≡◌, ◌++◌, drop, map}
use Rattle.fortran_tree.specs.DeclarationViews as view
use Rattle.unit_references.specs.References as names
use Rattle.unit_references.proofs.declaration.add_entities.Given as goal

abbrev pub invariant-loop-entity : goal.invariant-loop-entity
invariant-loop-entity l = l.refs ++ names.each names.entity (map view.entity (drop l.entity-index l.entities)) ≡ l.initial.refs ++ names.each names.entity (map view.entity l.entities)
