use Rattle.std.proofs.Common.{◌≡◌, ◌++◌, drop, map}
use Rattle.fortran_tree.specs.DeclarationViews as view
use Rattle.unit_references.specs.References as names
use Rattle.unit_references.proofs.declaration.add_dimensions.Given as goal

abbrev pub invariant-loop-dimension : goal.invariant-loop-dimension
invariant-loop-dimension l = l.refs ++ names.each names.dimension (map view.dimension (drop l.dimension-index l.dimensions)) ≡ l.initial.refs ++ names.each names.dimension (map view.dimension l.dimensions)
