use Rattle.std.proofs.Common.{◌≡◌, drop}
use Rattle.std.specs.Prelude.{map}
use Rattle.rule_definitions.specs.Arguments.{breaks_in_all}
use Rattle.rule_definitions.specs.Judgements.{is_nothing}
use Rattle.part_rules.specs.Brackets.{actual_seen}
use Rattle.expr_rules.proofs.bracket.are_plain.Given as goal

abbrev pub invariant-loop-actual : goal.invariant-loop-actual
invariant-loop-actual l = is_nothing (breaks_in_all (map actual_seen (drop l.actual-index l.actuals))) ≡ is_nothing (breaks_in_all (map actual_seen l.actuals))
