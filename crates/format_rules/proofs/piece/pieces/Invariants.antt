use Rattle.std.proofs.Common.{◌≡◌, ◌++◌, length, map}
use Rattle.std.specs.Option.{option_map}
use Rattle.rule_definitions.specs.Formats as rules
use Rattle.format_rules.specs.Views.{seen}
use Rattle.format_rules.proofs.piece.pieces.Given as goal

-- the pieces so far, and the text that is left
abbrev pub invariant-loop-first : goal.invariant-loop-first
invariant-loop-first l = option_map (λ ps. map seen l.pieces.items ++ ps) (rules.pieces rules.outside l.left) ≡ rules.pieces rules.outside l.text

abbrev pub decreases-loop-first : goal.decreases-loop-first
decreases-loop-first l = length l.left
