use Rattle.std.proofs.Common.{◌≡◌, ◌++◌, drop, map}
use Rattle.rule_definitions.specs.IntrinsicSubroutines as subroutines
use Rattle.call_rules.specs.Bindings.{binding_seen}
use Rattle.call_rules.proofs.binding.numbers_of.Given as goal

abbrev pub invariant-loop-binding : goal.invariant-loop-binding
invariant-loop-binding l = l.numbers.items ++ subroutines.numbers_of (map binding_seen (drop l.binding-index l.bindings)) ≡ subroutines.numbers_of (map binding_seen l.bindings)
