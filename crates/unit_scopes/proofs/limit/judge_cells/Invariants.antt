use Rattle.std.proofs.Common.{◌≡◌, ◌≤◌, drop, map}
use Rattle.rule_definitions.specs.Declarations.{cells_breaks}
use Rattle.rule_definitions.specs.Judgements.{first_of}
use Rattle.rule_definitions.specs.Names.{variables_of}
use Rattle.scope_table.specs.Symbols.{entry}
use Rattle.unit_scopes.specs.Limits.{chosen}
use Rattle.unit_scopes.proofs.limit.judge_cells.Given as goal

abbrev pub invariant-loop-next : goal.invariant-loop-next
invariant-loop-next l =
    (first_of l.first (cells_breaks l.passed (chosen l.of_coarrays (variables_of (map entry (drop l.next-index l.entries))))) ≡ first_of l.initial.first (cells_breaks 0 (chosen l.of_coarrays (variables_of (map entry l.entries)))))
    × (l.passed ≤ 65537)
