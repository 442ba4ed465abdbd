use Rattle.std.proofs.Common.{◌≡◌, ◌++◌, length}
use Rattle.case_rules.specs.Blocks.{backwards}
use Rattle.case_rules.proofs.selection.add_backwards.Given as goal

abbrev pub invariant-loop-last : goal.invariant-loop-last
invariant-loop-last l = l.breaks.items ++ backwards l.further.items ≡ l.initial.breaks.items ++ backwards l.initial.further.items

abbrev pub decreases-loop-last : goal.decreases-loop-last
decreases-loop-last l = length l.further.items
