use Rattle.std.proofs.Common.{◌≡◌, drop, map}
use Rattle.rule_definitions.specs.Names.{variables_of}
use Rattle.scope_table.specs.Symbols.{entry}
use Rattle.rule_checker.specs.Typing.{behind_variables, typed_variables}
use Rattle.rule_checker.proofs.variable.type_entries.Given as goal

abbrev pub invariant-loop-next : goal.invariant-loop-next
invariant-loop-next l = behind_variables l.all.items (typed_variables (variables_of (map entry (drop l.next-index l.entries)))) ≡ typed_variables (variables_of (map entry l.entries))
