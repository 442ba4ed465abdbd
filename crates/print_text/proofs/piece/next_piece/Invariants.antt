use Rattle.std.proofs.Common.{◌≡◌, ◌≤◌, ℕ, length}
use Rattle.image_acts.specs.Formats.{between, descriptors_in}
use Rattle.print_text.specs.Pieces.{kept}
use Rattle.print_text.proofs.piece.next_piece.Given as goal

-- the number so far, and the text that is left
abbrev pub invariant-loop-first : goal.invariant-loop-first
invariant-loop-first l = (n : ℕ) × (l.count ≡ kept n) × (length l.left ≤ length l.text) × (descriptors_in between n l.left ≡ descriptors_in between 0 l.text)

abbrev pub decreases-loop-first : goal.decreases-loop-first
decreases-loop-first l = length l.left
