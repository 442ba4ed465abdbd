use Rattle.std.proofs.Common.{◌≡◌, ℕ, ◌||◌, List, drop}
use Rattle.rule_definitions.specs.Names.{is_among}
use Rattle.scope_table.specs.Pending.{name_texts}
use Rattle.scope_table.proofs.pending.add_names.Given as goal

abbrev pub invariant-loop-name : goal.invariant-loop-name
invariant-loop-name l = (n : List ℕ) → (is_among l.names n || is_among (name_texts (drop l.name-index l.more)) n) ≡ (is_among l.initial.names n || is_among (name_texts l.more) n)
