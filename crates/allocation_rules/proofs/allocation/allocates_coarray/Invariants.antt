use Rattle.std.proofs.Common.{◌≡◌, drop, map}
use Rattle.fortran_tree.specs.ActionViews.{allocation}
use Rattle.rule_definitions.specs.Actions.{any_coarray}
use Rattle.allocation_rules.specs.Allocations.{name_of}
use Rattle.allocation_rules.proofs.allocation.allocates_coarray.Given as goal

abbrev pub invariant-loop-object : goal.invariant-loop-object
invariant-loop-object l = any_coarray l.scope (map name_of (map allocation (drop l.object-index l.objects))) ≡ any_coarray l.scope (map name_of (map allocation l.objects))
