use Rattle.std.proofs.Common.{◌≡◌, ◌++◌, drop, map}
use Rattle.rule_definitions.specs.Names.{variables_of}
use Rattle.rule_definitions.specs.Units.{symbols_named}
use Rattle.scope_table.specs.Symbols.{symbol}
use Rattle.unit_scopes.proofs.interface.copy_all_named.Given as goal

abbrev pub invariant-loop-next : goal.invariant-loop-next
invariant-loop-next l = map symbol l.all.items ++ symbols_named (variables_of l.own) (drop l.next-index l.names) ≡ symbols_named (variables_of l.own) l.names
