use Rattle.std.proofs.Common.{◌≡◌, drop}
use Rattle.tree_meaning.specs.Allocation.{freeing}
use Rattle.expr_code.specs.Drafts.{written}
use Rattle.allocation_code.proofs.object.push_freed.Given as goal

abbrev pub invariant-loop-object : goal.invariant-loop-object
invariant-loop-object l = written l.line (freeing (drop l.object-index l.objects)) l.draft ≡ written l.line (freeing l.objects) l.initial.draft
