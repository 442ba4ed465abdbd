use Rattle.std.proofs.Common.{◌≡◌, ℕ, List, map, drop}
use Rattle.rule_definitions.specs.Judgements.{or_else}
use Rattle.rule_definitions.specs.Names.{denoted_in}
use Rattle.scope_table.specs.Outside.{row}
use Rattle.scope_table.proofs.outside.add_all.Given as goal

abbrev pub invariant-loop-line : goal.invariant-loop-line
invariant-loop-line l = (n : List ℕ) → or_else (denoted_in l.names n) (denoted_in (map row (drop l.line-index l.table)) n) ≡ or_else (denoted_in l.initial.names n) (denoted_in (map row l.table) n)
