use Rattle.std.proofs.Common.{◌≡◌, ℕ, ◌||◌, List, drop}
use Rattle.rule_definitions.specs.Names.{is_among}
use Rattle.scope_table.specs.Pending.{entity_names}
use Rattle.scope_table.proofs.pending.add_entities.Given as goal

abbrev pub invariant-loop-entity : goal.invariant-loop-entity
invariant-loop-entity l = (n : List ℕ) → (is_among l.names n || is_among (entity_names (drop l.entity-index l.entities)) n) ≡ (is_among l.initial.names n || is_among (entity_names l.entities) n)
