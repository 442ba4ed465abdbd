use Rattle.std.proofs.Common.{◌≡◌, List, length}
use Rattle.statement_reader.specs.Parts.{Part as Seen}
use Rattle.program_tree.specs.Blocks as view
use Rattle.program_tree.proofs.block.under.Given as goal

abbrev pub invariant-loop-outer : goal.invariant-loop-outer
invariant-loop-outer l = (es : List Seen) → view.conditions_front l.initial.conditions.items (view.action_front l.initial.whole es) ≡ view.conditions_front l.conditions.items (view.action_front l.whole es)

abbrev pub decreases-loop-outer : goal.decreases-loop-outer
decreases-loop-outer l = length l.conditions.items
