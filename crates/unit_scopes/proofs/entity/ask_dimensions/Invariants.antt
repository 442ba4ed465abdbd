use Rattle.std.proofs.Common.{◌≡◌, ◌++◌, drop, map}
use Rattle.fortran_tree.specs.DeclarationViews.{dimension}
use Rattle.declaration_rules.specs.Shapes.{asked_dimension, dimension_asked_of}
use Rattle.unit_scopes.proofs.entity.ask_dimensions.Given as goal

abbrev pub invariant-loop-next : goal.invariant-loop-next
invariant-loop-next l = map asked_dimension l.all.items ++ map (dimension_asked_of l.scope) (map dimension (drop l.next-index l.dimensions)) ≡ map (dimension_asked_of l.scope) (map dimension l.dimensions)
