use Rattle.std.proofs.Common.{◌≡◌, drop}
use Rattle.rule_definitions.specs.Judgements.{first_of}
use Rattle.rule_definitions.specs.Units.{only_breaks}
use Rattle.declaration_rules.proofs.heading.judge_only.Given as goal

abbrev pub invariant-loop-name : goal.invariant-loop-name
invariant-loop-name l = first_of l.first (only_breaks (drop l.name-index l.only)) ≡ first_of l.initial.first (only_breaks l.only)
