use Rattle.std.proofs.Common.{◌≡◌, ◌≤◌, length}
use Rattle.std.specs.Prelude.{[]}
use Rattle.rule_definitions.specs.Formats as rules
use Rattle.format_rules.proofs.piece.literal.Given as goal

-- the characters so far, and the text that is left
abbrev pub invariant-loop-left : goal.invariant-loop-left
invariant-loop-left l = record {
  same : rules.pieces (rules.inside l.quote l.characters) l.left ≡ rules.pieces (rules.inside l.quote []) l.text;
  shorter : length l.left ≤ length l.text;
}

abbrev pub decreases-loop-left : goal.decreases-loop-left
decreases-loop-left l = length l.left
