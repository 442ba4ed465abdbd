use Rattle.std.proofs.Common.{◌≡◌, drop}
use Rattle.rule_definitions.specs.Actions.{any_coarray}
use Rattle.allocation_rules.proofs.allocation.names_coarray.Given as goal

abbrev pub invariant-loop-name : goal.invariant-loop-name
invariant-loop-name l = any_coarray l.scope (drop l.name-index l.names) ≡ any_coarray l.scope l.names
