use Rattle.std.proofs.Common.{◌≡◌, ◌++◌, drop, map}
use Rattle.fortran_tree.specs.DeclarationViews as view
use Rattle.unit_references.specs.References as names
use Rattle.unit_references.proofs.declaration.add_declarations.Given as goal

abbrev pub invariant-loop-declaration : goal.invariant-loop-declaration
invariant-loop-declaration l = l.refs ++ names.each names.declaration (map view.declaration (drop l.declaration-index l.declarations)) ≡ l.initial.refs ++ names.each names.declaration (map view.declaration l.declarations)
