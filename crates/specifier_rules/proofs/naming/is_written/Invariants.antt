use Rattle.std.proofs.Common.{◌≡◌, drop, map}
use Rattle.rule_definitions.specs.Specifiers.{value_named}
use Rattle.specifier_rules.specs.Views.{written}
use Rattle.specifier_rules.proofs.naming.is_written.Given as goal

-- what is left decides
abbrev pub invariant-loop-next : goal.invariant-loop-next
invariant-loop-next l = value_named l.name (map written (drop l.next-index l.specified)) ≡ value_named l.name (map written l.specified)
