use Rattle.std.proofs.Common.{◌≡◌, ◌++◌, length, map}
use Rattle.std.specs.Option.{option_map}
use Rattle.rule_definitions.specs.Formats as rules
use Rattle.format_rules.specs.Views.{seen, behind_comma}
use Rattle.format_rules.proofs.format.items.Given as goal

-- the items so far, and those that are left
abbrev pub invariant-loop-comma : goal.invariant-loop-comma
invariant-loop-comma l = option_map (λ ds. l.items.items ++ ds) (rules.all_descriptors (behind_comma (map seen l.left))) ≡ rules.all_descriptors (rules.between_commas (map seen l.pieces))

abbrev pub decreases-loop-comma : goal.decreases-loop-comma
decreases-loop-comma l = length l.left
