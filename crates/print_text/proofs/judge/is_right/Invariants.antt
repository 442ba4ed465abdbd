use Rattle.std.proofs.Common.{◌≡◌, ℕ, List}
use Rattle.image_acts.specs.Formats.{descriptors, formatted}
use Rattle.print_text.specs.Items.{items_of, items_left, passes_left}
use Rattle.print_text.specs.Passes.{is_found}
use Rattle.print_text.proofs.Passing.{passes}
use Rattle.print_text.proofs.judge.is_right.Given as goal

-- the passes and the items that are left
abbrev pub invariant-loop-passes : goal.invariant-loop-passes
invariant-loop-passes l =
    (texts : List (List ℕ)) → is_found (passes (passes_left l.passes) (descriptors l.format) (items_of texts (items_left l.left))) ≡ is_found (formatted l.format (items_of texts (items_left l.items)))

abbrev pub decreases-loop-passes : goal.decreases-loop-passes
decreases-loop-passes l = passes_left l.passes
