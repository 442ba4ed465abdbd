use Rattle.std.proofs.Common.{◌≡◌, ◌++◌, [], drop, map, take}
use Rattle.rule_definitions.specs.Specifiers.{specifier_breaks}
use Rattle.specifier_rules.specs.Values.{seen_behind, text}
use Rattle.specifier_rules.specs.Views.{written}
use Rattle.specifier_rules.proofs.naming.name_rules.Given as goal

-- what is said, and what is left
abbrev pub invariant-loop-index : goal.invariant-loop-index
invariant-loop-index l =
    l.breaks.items ++ specifier_breaks (map text l.allowed) (seen_behind [] (map written (take l.index l.specified))) (map written (drop l.index l.specified))
    ≡ l.initial.breaks.items ++ specifier_breaks (map text l.allowed) [] (map written l.specified)
