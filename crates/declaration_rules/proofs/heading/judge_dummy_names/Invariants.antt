use Rattle.std.proofs.Common.{◌≡◌, drop}
use Rattle.rule_definitions.specs.Judgements.{first_of}
use Rattle.rule_definitions.specs.Units.{dummy_breaks}
use Rattle.declaration_rules.proofs.heading.judge_dummy_names.Given as goal

abbrev pub invariant-loop-next : goal.invariant-loop-next
invariant-loop-next l = first_of l.first (dummy_breaks l.before (drop l.next-index l.dummies)) ≡ first_of l.initial.first (dummy_breaks l.initial.before l.dummies)
