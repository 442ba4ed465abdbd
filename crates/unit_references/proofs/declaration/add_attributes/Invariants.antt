use Rattle.std.proofs.Common.{◌≡◌, ◌++◌, drop, map}
use Rattle.fortran_tree.specs.DeclarationViews as view
use Rattle.unit_references.specs.References as names
use Rattle.unit_references.proofs.declaration.add_attributes.Given as goal

abbrev pub invariant-loop-attribute : goal.invariant-loop-attribute
invariant-loop-attribute l = l.refs ++ names.each names.attribute (map view.attribute (drop l.attribute-index l.attributes)) ≡ l.initial.refs ++ names.each names.attribute (map view.attribute l.attributes)
