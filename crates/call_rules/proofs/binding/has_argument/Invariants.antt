use Rattle.std.proofs.Common.{◌≡◌, drop, map}
use Rattle.rule_definitions.specs.Arguments as rules
use Rattle.rule_definitions.specs.Judgements.{is_there}
use Rattle.call_rules.specs.Bindings.{binding_seen}
use Rattle.call_rules.proofs.binding.has_argument.Given as goal

abbrev pub invariant-loop-binding : goal.invariant-loop-binding
invariant-loop-binding l = is_there (rules.bound_to (map binding_seen (drop l.binding-index l.bindings)) l.number) ≡ is_there (rules.bound_to (map binding_seen l.bindings) l.number)
