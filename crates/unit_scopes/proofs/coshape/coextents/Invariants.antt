use Rattle.std.proofs.Common.{◌≡◌, ◌++◌, drop, map}
use Rattle.rule_definitions.specs.Declarations.{coextent}
use Rattle.unit_scopes.proofs.coshape.coextents.Given as goal

abbrev pub invariant-loop-next : goal.invariant-loop-next
invariant-loop-next l = l.all ++ map coextent (drop l.next-index l.cobounds) ≡ map coextent l.cobounds
