use Rattle.std.proofs.Common.{◌≡◌, drop}
use Rattle.rule_definitions.specs.Arguments as rules
use Rattle.call_rules.proofs.binding.is_number_in.Given as goal

abbrev pub invariant-loop-one : goal.invariant-loop-one
invariant-loop-one l = rules.is_number_in (drop l.one-index l.numbers) l.number ≡ rules.is_number_in l.numbers l.number
