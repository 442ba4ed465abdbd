use Rattle.std.proofs.Common.{◌≡◌, ◌++◌, map}
use Rattle.rule_definitions.specs.Specifiers.{values_breaks}
use Rattle.specifier_rules.specs.Values.{values_named}
use Rattle.specifier_rules.specs.Views.{values_seen, written}
use Rattle.specifier_rules.proofs.value.values_of.Given as goal

-- what the specifiers so far say
abbrev pub invariant-loop-next : goal.invariant-loop-next
invariant-loop-next l =
    (l.breaks.items ≡ l.initial.breaks.items ++ values_breaks (map written l.yielded))
    × (values_seen l.values ≡ values_named (map written l.yielded))
