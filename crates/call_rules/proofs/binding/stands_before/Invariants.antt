use Rattle.std.proofs.Common.{◌≡◌, drop, map}
use Rattle.rule_definitions.specs.Arguments as rules
use Rattle.call_rules.specs.Bindings.{binding_seen}
use Rattle.call_rules.proofs.binding.stands_before.Given as goal

abbrev pub invariant-loop-binding : goal.invariant-loop-binding
invariant-loop-binding l = rules.stands_before (map binding_seen (drop l.binding-index l.bindings)) l.one l.other ≡ rules.stands_before (map binding_seen l.bindings) l.one l.other
