use Rattle.std.proofs.Common.{length}
use Rattle.print_text.proofs.Literals.{At}
use Rattle.print_text.proofs.piece.literal.Given as goal

-- so many bytes are read, and the others are left
abbrev pub invariant-loop-first : goal.invariant-loop-first
invariant-loop-first l = At l.quote l.text l.len l.left

abbrev pub decreases-loop-first : goal.decreases-loop-first
decreases-loop-first l = length l.left
