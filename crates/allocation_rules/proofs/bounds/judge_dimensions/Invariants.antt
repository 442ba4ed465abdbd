use Rattle.std.proofs.Common.{◌≡◌, ◌++◌, drop, map}
use Rattle.std.specs.Option.{option_map}
use Rattle.checked_tree.specs.StatementViews.{allocated_bounds}
use Rattle.fortran_tree.specs.DeclarationViews.{dimension}
use Rattle.rule_definitions.specs.Actions.{bounds_or_none}
use Rattle.rule_definitions.specs.Judgements.{all_made}
use Rattle.part_rules.specs.Views.{list_of}
use Rattle.shared_rules.proofs.Turns.{behind}
use Rattle.allocation_rules.proofs.bounds.judge_dimensions.Given as goal

abbrev pub invariant-loop-dimension : goal.invariant-loop-dimension
invariant-loop-dimension l =
    (l.list.breaks.items ++ (all_made (map (bounds_or_none l.scope) (map dimension (drop l.dimension-index l.dimensions)))).breaks ≡ (all_made (map (bounds_or_none l.scope) (map dimension l.dimensions))).breaks)
    × (behind (option_map (map allocated_bounds) (option_map list_of l.list.meaning)) (all_made (map (bounds_or_none l.scope) (map dimension (drop l.dimension-index l.dimensions)))).meaning ≡ (all_made (map (bounds_or_none l.scope) (map dimension l.dimensions))).meaning)
