use Rattle.std.proofs.Common.{◌≡◌, drop, map}
use Rattle.rule_definitions.specs.IntrinsicFunctions as rules
use Rattle.part_rules.specs.Brackets.{actual_seen}
use Rattle.function_rules.proofs.form.has_keyword.Given as goal

abbrev pub invariant-loop-actual : goal.invariant-loop-actual
invariant-loop-actual l = rules.has_keyword l.name (map actual_seen (drop l.actual-index l.actuals)) ≡ rules.has_keyword l.name (map actual_seen l.actuals)
