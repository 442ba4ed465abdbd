use Rattle.std.proofs.Common.{◌≡◌, [], drop, map}
use Rattle.rule_definitions.specs.Arguments as rules
use Rattle.call_rules.specs.Bindings.{binding_seen}
use Rattle.call_rules.proofs.binding.are_bound.Given as goal

abbrev pub invariant-loop-binding : goal.invariant-loop-binding
invariant-loop-binding l = rules.are_bound l.taken.items (map binding_seen (drop l.binding-index l.bindings)) ≡ rules.are_bound [] (map binding_seen l.bindings)
