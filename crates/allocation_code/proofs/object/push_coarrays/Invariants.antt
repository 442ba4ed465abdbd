use Rattle.std.proofs.Common.{◌≡◌, drop}
use Rattle.tree_meaning.specs.Allocation.{coarrays_in, numbers}
use Rattle.tree_meaning.specs.Sequences.{doing}
use Rattle.expr_code.specs.Drafts.{written}
use Rattle.allocation_code.proofs.object.push_coarrays.Given as goal

abbrev pub invariant-loop-object : goal.invariant-loop-object
invariant-loop-object l = written l.line (doing (numbers (coarrays_in (drop l.object-index l.objects)))) l.draft ≡ written l.line (doing (numbers (coarrays_in l.objects))) l.initial.draft
