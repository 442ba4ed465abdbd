use Rattle.std.proofs.Common.{◌≡◌, drop, map}
use Rattle.rule_definitions.specs.Names.{symbol_in}
use Rattle.scope_table.specs.Scopes.{seen_entry}
use Rattle.scope_table.proofs.object.symbol_among.Given as goal

abbrev pub invariant-loop-entry : goal.invariant-loop-entry
invariant-loop-entry l = symbol_in (map (seen_entry l.home) (drop l.entry-index l.entries)) l.object ≡ symbol_in (map (seen_entry l.home) l.entries) l.object
