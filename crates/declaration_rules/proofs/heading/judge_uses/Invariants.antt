use Rattle.std.proofs.Common.{◌≡◌, drop, map}
use Rattle.rule_definitions.specs.Judgements.{first_of}
use Rattle.fortran_tree.specs.UnitViews.{use_statement}
use Rattle.rule_definitions.specs.Units.{uses_breaks}
use Rattle.declaration_rules.proofs.heading.judge_uses.Given as goal

abbrev pub invariant-loop-statement : goal.invariant-loop-statement
invariant-loop-statement l = first_of l.first (uses_breaks (map use_statement (drop l.statement-index l.uses))) ≡ first_of l.initial.first (uses_breaks (map use_statement l.uses))
