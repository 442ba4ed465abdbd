use Rattle.std.proofs.Common.{◌≡◌, length}
use Rattle.rule_definitions.specs.Formats as rules
use Rattle.format_rules.proofs.judge.has_data.Given as goal

-- none so far
abbrev pub invariant-loop-first : goal.invariant-loop-first
invariant-loop-first l = rules.has_data l.left ≡ rules.has_data l.items

abbrev pub decreases-loop-first : goal.decreases-loop-first
decreases-loop-first l = length l.left
