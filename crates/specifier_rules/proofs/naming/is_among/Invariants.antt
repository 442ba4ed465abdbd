use Rattle.std.proofs.Common.{◌≡◌, drop, map}
use Rattle.rule_definitions.specs.Names.{is_among}
use Rattle.specifier_rules.specs.Values.{text}
use Rattle.specifier_rules.proofs.naming.is_among.Given as goal

-- what is left decides
abbrev pub invariant-loop-other : goal.invariant-loop-other
invariant-loop-other l = is_among (map text (drop l.other-index l.names)) l.name ≡ is_among (map text l.names) l.name
