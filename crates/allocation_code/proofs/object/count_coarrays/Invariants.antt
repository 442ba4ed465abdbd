use Rattle.std.proofs.Common.{◌≡◌, ◌+◌, drop, length}
use Rattle.tree_meaning.specs.Allocation.{coarrays_in}
use Rattle.allocation_code.proofs.object.count_coarrays.Given as goal

abbrev pub invariant-loop-object : goal.invariant-loop-object
invariant-loop-object l = l.count + length (coarrays_in (drop l.object-index l.objects)) ≡ length (coarrays_in l.objects)
