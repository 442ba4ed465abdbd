use Rattle.std.proofs.Common.{◌≡◌, length, map}
use Rattle.rule_definitions.specs.Specifiers.{stands_first}
use Rattle.specifier_rules.specs.Views.{written}
use Rattle.specifier_rules.proofs.naming.stands_first.Given as goal

-- what is left decides
abbrev pub invariant-loop-left : goal.invariant-loop-left
invariant-loop-left l = stands_first l.one l.other (map written l.left) ≡ stands_first l.one l.other (map written l.specified)

abbrev pub decreases-loop-left : goal.decreases-loop-left
decreases-loop-left l = length l.left
