use Rattle.std.proofs.Common.{◌≡◌, map, drop}
use Rattle.rule_definitions.specs.Names.{denoted_in}
use Rattle.scope_table.specs.Outside.{row}
use Rattle.scope_table.proofs.outside.found_in.Given as goal

abbrev pub invariant-loop-line : goal.invariant-loop-line
invariant-loop-line l = denoted_in (map row (drop l.line-index l.table)) l.name ≡ denoted_in (map row l.table) l.name
