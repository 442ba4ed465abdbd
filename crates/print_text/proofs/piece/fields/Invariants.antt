use Rattle.std.proofs.Common.{◌≡◌, ◌≤◌, ℕ, length}
use Rattle.image_acts.specs.Formats.{in_width, descriptors_in}
use Rattle.print_text.specs.Pieces.{kept, is_integer}
use Rattle.print_text.proofs.piece.fields.Given as goal

-- the width so far, and the text that is left
abbrev pub invariant-loop-first : goal.invariant-loop-first
invariant-loop-first l =
    (w : ℕ) × (l.width ≡ kept w) × (length l.left ≤ length l.text)
    × ((n : ℕ) → descriptors_in (in_width (is_integer l.kind) n) w l.left ≡ descriptors_in (in_width (is_integer l.kind) n) 0 l.text)

abbrev pub decreases-loop-first : goal.decreases-loop-first
decreases-loop-first l = length l.left
