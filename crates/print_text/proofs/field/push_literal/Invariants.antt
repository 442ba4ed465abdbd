use Rattle.std.proofs.Common.{◌≡◌, ◌++◌, length}
use Rattle.print_text.specs.Pieces.{characters}
use Rattle.print_text.proofs.field.push_literal.Given as goal

-- the characters so far, and those that are left
abbrev pub invariant-loop-first : goal.invariant-loop-first
invariant-loop-first l = l.out.items ++ characters l.quote l.left ≡ l.initial.out.items ++ characters l.quote l.inside

abbrev pub decreases-loop-first : goal.decreases-loop-first
decreases-loop-first l = length l.left
