use Rattle.std.proofs.Common.{◌≡◌, ◌++◌, length}
use Rattle.expr_reader.specs.Plain as plain
use Rattle.token_words.proofs.kind.characters.Given as goal

-- what is done, and what is left
abbrev pub invariant-loop-left : goal.invariant-loop-left
invariant-loop-left l = l.characters ++ plain.characters l.quote l.left ≡ plain.characters l.quote l.text

abbrev pub decreases-loop-left : goal.decreases-loop-left
decreases-loop-left l = length l.left
