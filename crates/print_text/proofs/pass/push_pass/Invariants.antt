use Rattle.std.proofs.Common.{◌≡◌, ℕ, length}
use Rattle.image_acts.specs.Formats.{descriptors, pass}
use Rattle.print_text.specs.Items.{items_of, items_left}
use Rattle.print_text.specs.Passes.{behind}
use Rattle.print_text.specs.Pieces.{kept}
use Rattle.print_text.proofs.pass.push_pass.Given as goal

-- places that are skipped, the text of the format and the items that are left
abbrev pub invariant-loop-piece : goal.invariant-loop-piece
invariant-loop-piece l =
    (s : ℕ) × (l.skipped ≡ kept s)
    × (behind l.out.items (pass (descriptors l.text) (items_of l.texts (items_left l.left)) s) ≡ behind l.initial.out.items (pass (descriptors l.format) (items_of l.texts (items_left l.items)) 0))

abbrev pub decreases-loop-piece : goal.decreases-loop-piece
decreases-loop-piece l = length l.text
