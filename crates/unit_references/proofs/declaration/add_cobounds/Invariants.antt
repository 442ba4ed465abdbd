use Rattle.std.proofs.Common.{◌≡◌, ◌++◌, drop, map}
use Rattle.fortran_tree.specs.DeclarationViews as view
use Rattle.unit_references.specs.References as names
use Rattle.unit_references.proofs.declaration.add_cobounds.Given as goal

abbrev pub invariant-loop-bounds : goal.invariant-loop-bounds
invariant-loop-bounds l = l.refs ++ names.each names.bounds (map view.bounds (drop l.bounds-index l.cobounds)) ≡ l.initial.refs ++ names.each names.bounds (map view.bounds l.cobounds)
