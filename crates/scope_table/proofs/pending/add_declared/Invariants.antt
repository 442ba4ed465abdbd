use Rattle.std.proofs.Common.{◌≡◌, ℕ, ◌||◌, List, drop}
use Rattle.rule_definitions.specs.Names.{is_among}
use Rattle.scope_table.specs.Pending.{declared_names}
use Rattle.scope_table.proofs.pending.add_declared.Given as goal

abbrev pub invariant-loop-declaration : goal.invariant-loop-declaration
invariant-loop-declaration l = (n : List ℕ) → (is_among l.names n || is_among (declared_names (drop l.declaration-index l.declarations)) n) ≡ (is_among l.initial.names n || is_among (declared_names l.declarations) n)
