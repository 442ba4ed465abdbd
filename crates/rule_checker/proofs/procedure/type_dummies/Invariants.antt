use Rattle.std.proofs.Common.{◌≡◌, ◌++◌, drop, map}
use Rattle.rule_definitions.specs.Units.{dummy_typed}
use Rattle.scope_table.specs.Symbols.{symbol}
use Rattle.rule_checker.proofs.procedure.type_dummies.Given as goal

abbrev pub invariant-loop-next : goal.invariant-loop-next
invariant-loop-next l = l.all.items ++ map dummy_typed (map symbol (drop l.next-index l.dummies)) ≡ map dummy_typed (map symbol l.dummies)
