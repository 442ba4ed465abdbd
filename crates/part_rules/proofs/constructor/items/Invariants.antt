use Rattle.std.proofs.Common.{◌≡◌}
use Rattle.std.specs.Prelude.{map, None}
use Rattle.std.specs.Option.{option_map}
use Rattle.checked_tree.specs.ExpressionViews.{expression}
use Rattle.rule_definitions.specs.Judgements.{all_made}
use Rattle.part_rules.specs.Items.{constructor_items, type_after}
use Rattle.part_rules.specs.Views.{list_of, placed}
use Rattle.part_rules.proofs.constructor.items.Given as goal

abbrev pub invariant-loop-part : goal.invariant-loop-part
invariant-loop-part l =
    (l.before ≡ type_after None (map placed l.yielded))
    × (l.list.breaks.items ≡ (all_made (constructor_items None (map placed l.yielded))).breaks)
    × (option_map (map expression) (option_map list_of l.list.meaning) ≡ (all_made (constructor_items None (map placed l.yielded))).meaning)
