use Rattle.std.proofs.Common.{◌≡◌, drop, map}
use Rattle.rule_definitions.specs.IntrinsicFunctions as rules
use Rattle.part_rules.specs.Brackets.{actual_seen}
use Rattle.function_rules.proofs.several.are_unnamed.Given as goal

abbrev pub invariant-loop-actual : goal.invariant-loop-actual
invariant-loop-actual l = rules.are_unnamed (map actual_seen (drop l.actual-index l.actuals)) ≡ rules.are_unnamed (map actual_seen l.actuals)
