use Rattle.std.proofs.Common.{◌≡◌, ◌++◌, drop, map}
use Rattle.checked_tree.specs.StatementViews as view
use Rattle.tree_meaning.specs.Allocation as meaning
use Rattle.allocation_code.proofs.object.objects_of.Given as goal

abbrev pub invariant-loop-allocation : goal.invariant-loop-allocation
invariant-loop-allocation l = l.objects.items ++ meaning.objects_of (map view.allocation (drop l.allocation-index l.allocations)) ≡ meaning.objects_of (map view.allocation l.allocations)
