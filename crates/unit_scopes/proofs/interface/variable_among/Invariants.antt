use Rattle.std.proofs.Common.{◌≡◌, drop, map}
use Rattle.rule_definitions.specs.Names.{variables_of}
use Rattle.rule_definitions.specs.Units.{symbol_named}
use Rattle.scope_table.specs.Symbols.{entry}
use Rattle.unit_scopes.proofs.interface.variable_among.Given as goal

abbrev pub invariant-loop-next : goal.invariant-loop-next
invariant-loop-next l = symbol_named (variables_of (map entry (drop l.next-index l.entries))) l.name ≡ symbol_named (variables_of (map entry l.entries)) l.name
