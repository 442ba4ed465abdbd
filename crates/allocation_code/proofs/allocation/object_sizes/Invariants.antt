use Rattle.std.proofs.Common.{◌≡◌, ◌+◌, drop, map}
use Rattle.checked_tree.specs.StatementViews.{allocation}
use Rattle.tree_meaning.specs.Allocation as meaning
use Rattle.allocation_code.proofs.allocation.object_sizes.Given as goal

abbrev pub invariant-loop-object : goal.invariant-loop-object
invariant-loop-object l = l.size + meaning.object_sizes (map allocation (drop l.object-index l.objects)) ≡ meaning.object_sizes (map allocation l.objects)
