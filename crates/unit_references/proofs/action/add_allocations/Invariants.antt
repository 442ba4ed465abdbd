use Rattle.std.proofs.Common.{◌≡◌, ◌++◌, drop, map}
use Rattle.fortran_tree.specs.ActionViews as view
use Rattle.unit_references.specs.References as names
use Rattle.unit_references.proofs.action.add_allocations.Given as goal

abbrev pub invariant-loop-object : goal.invariant-loop-object
invariant-loop-object l = l.refs ++ names.each names.allocation (map view.allocation (drop l.object-index l.objects)) ≡ l.initial.refs ++ names.each names.allocation (map view.allocation l.objects)
