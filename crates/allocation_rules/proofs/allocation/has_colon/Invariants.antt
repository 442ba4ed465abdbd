use Rattle.std.proofs.Common.{◌≡◌, drop, map}
use Rattle.fortran_tree.specs.DeclarationViews.{dimension}
use Rattle.rule_definitions.specs.Actions.{has_colon}
use Rattle.allocation_rules.proofs.allocation.has_colon.Given as goal

abbrev pub invariant-loop-dimension : goal.invariant-loop-dimension
invariant-loop-dimension l = has_colon (map dimension (drop l.dimension-index l.dimensions)) ≡ has_colon (map dimension l.dimensions)
