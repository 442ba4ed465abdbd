use Rattle.std.proofs.Common.{◌≡◌, ◌++◌, drop, map}
use Rattle.rule_definitions.specs.Names.{variables_of}
use Rattle.rule_definitions.specs.Units.{coarray_numbers}
use Rattle.scope_table.specs.Symbols.{entry}
use Rattle.rule_checker.proofs.variable.number_entries.Given as goal

abbrev pub invariant-loop-next : goal.invariant-loop-next
invariant-loop-next l = l.all ++ coarray_numbers l.number (variables_of (map entry (drop l.next-index l.entries))) ≡ coarray_numbers 0 (variables_of (map entry l.entries))
