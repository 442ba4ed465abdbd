use Rattle.std.proofs.Common.{◌≡◌, ℕ, List, length}
use Rattle.image_acts.specs.Formats.{descriptors, pass}
use Rattle.print_text.specs.Items.{items_of, items_left}
use Rattle.print_text.specs.Passes.{bare}
use Rattle.print_text.proofs.judge.behind_pass.Given as goal

-- the text of the format and the items that are left
abbrev pub invariant-loop-piece : goal.invariant-loop-piece
invariant-loop-piece l =
    (texts : List (List ℕ)) → bare (pass (descriptors l.text) (items_of texts (items_left l.left)) 0) ≡ bare (pass (descriptors l.format) (items_of texts (items_left l.items)) 0)

abbrev pub decreases-loop-piece : goal.decreases-loop-piece
decreases-loop-piece l = length l.text
