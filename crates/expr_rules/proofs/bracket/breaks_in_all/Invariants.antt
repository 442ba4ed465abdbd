use Rattle.std.proofs.Common.{◌≡◌}
use Rattle.std.specs.Prelude.{map}
use Rattle.rule_definitions.specs.Arguments.{breaks_in_all}
use Rattle.part_rules.specs.Brackets.{actual_seen}
use Rattle.expr_rules.proofs.bracket.breaks_in_all.Given as goal

abbrev pub invariant-loop-actual : goal.invariant-loop-actual
invariant-loop-actual l = l.breaks.items ≡ breaks_in_all (map actual_seen l.yielded)
