use Rattle.std.proofs.Common.{◌≡◌, ℕ, ◌||◌, List, drop, map}
use Rattle.rule_definitions.specs.Names.{is_among}
use Rattle.rule_definitions.specs.Units.{name_of}
use Rattle.scope_table.specs.Symbols.{entry}
use Rattle.rule_checker.proofs.program.names_in.Given as goal

abbrev pub invariant-loop-next : goal.invariant-loop-next
invariant-loop-next l = (n : List ℕ) → (is_among l.names n || is_among (map name_of (map entry (drop l.next-index l.entries))) n) ≡ is_among (map name_of (map entry l.entries)) n
