use Rattle.std.proofs.Common.{◌≡◌, drop}
use Rattle.rule_definitions.specs.Declarations.{all_held}
use Rattle.declaration_rules.proofs.initial.can_hold_all.Given as goal

abbrev pub invariant-loop-value : goal.invariant-loop-value
invariant-loop-value l = all_held l.of_type (drop l.value-index l.values) ≡ all_held l.of_type l.values
