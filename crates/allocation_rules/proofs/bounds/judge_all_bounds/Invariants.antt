use Rattle.std.proofs.Common.{◌≡◌, ◌++◌, drop, map}
use Rattle.std.specs.Option.{option_map}
use Rattle.checked_tree.specs.StatementViews.{allocated_bounds}
use Rattle.fortran_tree.specs.DeclarationViews.{bounds}
use Rattle.rule_definitions.specs.Actions as a
use Rattle.rule_definitions.specs.Judgements.{all_made}
use Rattle.part_rules.specs.Views.{list_of}
use Rattle.shared_rules.proofs.Turns.{behind}
use Rattle.allocation_rules.proofs.bounds.judge_all_bounds.Given as goal

abbrev pub invariant-loop-bounds : goal.invariant-loop-bounds
invariant-loop-bounds l =
    (l.list.breaks.items ++ (all_made (map (a.allocated_bounds l.scope) (map bounds (drop l.bounds-index l.cobounds)))).breaks ≡ (all_made (map (a.allocated_bounds l.scope) (map bounds l.cobounds))).breaks)
    × (behind (option_map (map allocated_bounds) (option_map list_of l.list.meaning)) (all_made (map (a.allocated_bounds l.scope) (map bounds (drop l.bounds-index l.cobounds)))).meaning ≡ (all_made (map (a.allocated_bounds l.scope) (map bounds l.cobounds))).meaning)
