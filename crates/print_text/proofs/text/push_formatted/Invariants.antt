use Rattle.std.proofs.Common.{◌≡◌}
use Rattle.image_acts.specs.Formats.{descriptors, formatted}
use Rattle.print_text.specs.Items.{items_of, items_left, passes_left}
use Rattle.print_text.specs.Passes.{upon}
use Rattle.print_text.proofs.Passing.{passes}
use Rattle.print_text.proofs.text.push_formatted.Given as goal

-- the passes and the items that are left
abbrev pub invariant-loop-passes : goal.invariant-loop-passes
invariant-loop-passes l =
    upon l.out.items (passes (passes_left l.passes) (descriptors l.format) (items_of l.texts (items_left l.left))) ≡ upon l.initial.out.items (formatted l.format (items_of l.texts (items_left l.items)))

abbrev pub decreases-loop-passes : goal.decreases-loop-passes
decreases-loop-passes l = passes_left l.passes
