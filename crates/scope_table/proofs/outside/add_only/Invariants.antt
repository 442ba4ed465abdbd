use Rattle.std.proofs.Common.{◌≡◌, ℕ, List, drop}
use Rattle.rule_definitions.specs.Judgements.{or_else}
use Rattle.rule_definitions.specs.Names.{denoted_in}
use Rattle.rule_definitions.specs.Units.{accessible_names}
use Rattle.scope_table.proofs.outside.add_only.Given as goal

abbrev pub invariant-loop-name : goal.invariant-loop-name
invariant-loop-name l = (n : List ℕ) → or_else (denoted_in l.names n) (denoted_in (accessible_names (drop l.name-index l.only)) n) ≡ or_else (denoted_in l.initial.names n) (denoted_in (accessible_names l.only) n)
