use Rattle.std.proofs.Common.{◌≡◌, take, map}
use Rattle.rule_definitions.specs.Constants as rules
use Rattle.constant_values.proofs.known.all_from_one.Given as goal

abbrev pub invariant-loop-dimension : goal.invariant-loop-dimension
invariant-loop-dimension l = l.all ≡ map rules.from_one (take l.dimension-index l.bounds)
