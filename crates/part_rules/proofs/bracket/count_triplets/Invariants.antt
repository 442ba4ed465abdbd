use Rattle.std.proofs.Common.{◌≡◌, ◌+◌, ◌≤◌, drop, map}
use Rattle.rule_definitions.specs.Expressions.{triplets_in}
use Rattle.part_rules.specs.Brackets.{actual_seen}
use Rattle.part_rules.proofs.bracket.count_triplets.Given as goal

abbrev pub invariant-loop-actual : goal.invariant-loop-actual
invariant-loop-actual l = (l.count + triplets_in (map actual_seen (drop l.actual-index l.actuals)) ≡ triplets_in (map actual_seen l.actuals)) × (l.count ≤ l.actual-index)
