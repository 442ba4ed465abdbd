use Rattle.std.proofs.Common.{◌≡◌, drop, map}
use Rattle.rule_definitions.specs.Arguments as rules
use Rattle.rule_definitions.specs.Judgements.{is_nothing}
use Rattle.part_rules.specs.Brackets.{actual_seen}
use Rattle.call_rules.proofs.actual.are_sound.Given as goal

abbrev pub invariant-loop-actual : goal.invariant-loop-actual
invariant-loop-actual l = is_nothing (rules.breaks_in_all (map actual_seen (drop l.actual-index l.actuals))) ≡ is_nothing (rules.breaks_in_all (map actual_seen l.actuals))
