use Rattle.std.proofs.Common.{◌≡◌, drop}
use Rattle.tree_meaning.specs.Allocation.{are_allocated}
use Rattle.expr_code.specs.Drafts.{written}
use Rattle.allocation_code.proofs.object.push_are_allocated.Given as goal

abbrev pub invariant-loop-object : goal.invariant-loop-object
invariant-loop-object l = written l.line (are_allocated (drop l.object-index l.objects)) l.draft ≡ written l.line (are_allocated l.objects) l.initial.draft
