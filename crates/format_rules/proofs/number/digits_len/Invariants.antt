use Rattle.std.proofs.Common.{◌≡◌, ◌+◌, length, map}
use Rattle.rule_definitions.specs.Formats as rules
use Rattle.format_rules.specs.Views.{seen}
use Rattle.format_rules.proofs.number.digits_len.Given as goal

-- the digits so far, and those that are left
abbrev pub invariant-loop-first : goal.invariant-loop-first
invariant-loop-first l = record {
  value : l.len + length (rules.counted (map seen l.left)).digits ≡ length (rules.counted (map seen l.pieces)).digits;
  within : l.len + length l.left ≡ length l.pieces;
}

abbrev pub decreases-loop-first : goal.decreases-loop-first
decreases-loop-first l = length l.left
